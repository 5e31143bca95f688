-- The invariant through every other message, through a new table, a reset and a report: what the sound module does,
-- the book does.
-- Assumes nothing.
use Rattle.std.specs.Prelude.{if◌then◌else◌}
use mathlib.Core.Path.{◌≡◌, refl, sym, ap, ap₂, ◌∙◌, subst}
use mathlib.Core.Bool.{Bool, true, false, not, ◌&&◌, ◌||◌, false≢true}
use mathlib.Core.List.{List, [], ◌∷◌}
use Prim.Native.Nat.{ℕ, ◌-◌, ◌≤◌}
use native.Mathlib.Omega.{arith}
use borrow.Author.Tests.{eqb-true, eqb-false, eq-eqb, ne_eqb, le-leb, ltb-true, ltb-false}
use lib.Dec.{eqb, leb, ltb}
use lib.ListN.{get_or, set, replicate, length-set, get_or-replicate, get_or-eq_default}
use lib.Seq.{get_or-set_same, get_or-set_other}
use Rattle.loops.specs.Cases.{differ, bit}
use Rattle.loops.proofs.Tests.{and_left}
use Rattle.message.specs.declared.Message.{Message}
use Rattle.message.specs.declared.Message.TheVariants.{NoteOn, NoteOff, Control, Program, Bend, Other}
use Rattle.table.specs.declared.Entry.{Entry}
use Rattle.table.specs.declared.Table.{Table}
use Rattle.table.specs.Laws.{WellFormed, Channels}
use Rattle.table.specs.Table.{entries_of, listed}
use Rattle.table.proofs.Start.{start_entries, start_well_formed}
use Rattle.refusals.specs.declared.Refusal.TheVariants as refusal
use Rattle.shares.specs.Shares.{shares_from, lookup, is_masked, is_channel}
use Rattle.shares.specs.Shares as of-table
use Rattle.shares.proofs.Shares.{masked_unlisted, shares-channels}
use Rattle.channels.specs.declared.Channel.{Channel}
use Rattle.channels.specs.Channel.{with_program, with_bend, rhythm_by}
use Rattle.channels.specs.Channel as of-channel
use Rattle.controllers.specs.Controllers.{reset, stored, controlled, lifts_pedal, silences_all, ends_all}
use Rattle.generators.specs.declared.Generators.{Generators}
use Rattle.generators.specs.Generators.{Generator, generator, at, is_idle, is_busy}
use Rattle.releases.specs.declared.Change.{Change}
use Rattle.releases.specs.declared.Change.TheVariants as change
use Rattle.releases.specs.Releases.{changed}
use Rattle.silence.specs.declared.Leaving.TheVariants as leaving
use Rattle.silence.specs.Silence.{silenced}
use Rattle.instrument.specs.declared.Instrument.{Instrument}
use Rattle.instrument.specs.Instrument.{fresh, fresh_channels, channel_at, replaced, channel_of, with_channel}
use Rattle.instrument.specs.Instrument.{with_kind, with_generators}
use Rattle.instrument.specs.Instrument as of-instrument
use Rattle.masking.specs.Masking.{is_newly_masked, masked}
use Rattle.playing.specs.declared.Answer.TheVariants.{Done, Number}
use Rattle.playing.specs.declared.Reply.{Reply}
use Rattle.playing.specs.Playing.{replied, played}
use Rattle.other_messages.specs.OtherMessages.{play_note_off, play_control, kind_set, play_program}
use Rattle.other_messages.specs.OtherMessages as of_others
use Rattle.reports.specs.Reports.{reported}
use Rattle.exclusive.specs.Exclusive.{new_table}
use Rattle.note_book.specs.Book.{Slot, empty, note, Book, with_holds, with_table, with_bank, with_rhythm, fresh_book}
use Rattle.note_book.specs.Book.{share_of, is_rhythm, pedal_down, is_down, is_on_pedal, is_of, is_of_key}
use Rattle.note_book.specs.Book.{freed, all_freed, put, keep_note_off, hold_after, bank_after}
use Rattle.note_book.specs.Book.{keep_control, kind_kept, keep_program, keep_message}
use Rattle.note_book.specs.Book.{is_of_masked, keep_table, keep_report}
use Rattle.note_book.specs.Claim.{slot_of}
use Rattle.note_book.proofs.Playable.{playable_changed, playable_silenced, playable_restated, playable_silent}
use Rattle.note_book.proofs.Sees.{slot_freed, means, pedals, sees_restated}
use Rattle.note_book.proofs.Sees.{sees_changed, sees_channel, sees_one, sees_silent}
use Rattle.note_book.proofs.Pigeons.{IsListed}
use Rattle.note_book.proofs.Matches.{quota, Matches, matches_notes, freed-listed}
use Rattle.note_book.proofs.Matches.{listed_unmasked, same-rhythm, note_law}

-- ---- what frees notes and nothing else

matches_changed : (h : Change) (i : Instrument) (b : Book) → Matches i b
    → Matches (with_generators i (changed h i.generators)) (all_freed (means h) (pedals h) b)
matches_changed h i b m =
    matches_notes i b m (changed h i.generators) _ (playable_changed h b.polyphony i.generators m.playable)
    (sees_changed h b.notes i.generators m.playable.ordered.sized m.notes)
    (λ g. freed-listed (quota b) (means h) (pedals h) (b.notes g) (m.unmasked g))

matches_silenced : (c : ℕ) (i : Instrument) (b : Book) → Matches i b
    → Matches (with_generators i (silenced (leaving.Channel c) i.generators)) (all_freed (is_of c) false b)
matches_silenced c i b m =
    matches_notes i b m (silenced (leaving.Channel c) i.generators) _
    (playable_silenced (leaving.Channel c) b.polyphony i.generators m.playable)
    (sees_channel c b.notes i.generators m.playable.ordered.sized m.notes)
    (λ g. freed-listed (quota b) (is_of c) false (b.notes g) (m.unmasked g))

same_pedal : (i : Instrument) (b : Book) → Matches i b → (c : ℕ) → 1 ≤ c → of-instrument.pedal_down i c ≡ pedal_down b c
same_pedal i b m c h = ap (leb 64) (m.holds c h)

step_note_off : (i : Instrument) (b : Book) → Matches i b
    → (c k : ℕ) → 1 ≤ c → Matches (play_note_off i c k) (keep_note_off b c k)
unfolding play_note_off
step_note_off i b m c k h = rw (same-rhythm i b m c) (go (is_rhythm b c))
  where
    go : (r : Bool) → Matches (if r then i
        else with_generators i (changed (change.NoteOff (of-instrument.pedal_down i c) c k) i.generators))
        (if r then b else all_freed (λ s. is_down s && is_of_key c k s) (pedal_down b c) b)
    go true = m
    go false =
        subst (λ (x : Bool). Matches (with_generators i (changed (change.NoteOff x c k) i.generators))
        (all_freed (λ s. is_down s && is_of_key c k s) (pedal_down b c) b))
        (sym (same_pedal i b m c h)) (matches_changed (change.NoteOff (pedal_down b c) c k) i b m)

-- ---- a channel's numbers

-- the record of channel c is replaced, and the book has its hold and, if it is channel 11, its bank
matches_channel : (i : Instrument) (b : Book) → Matches i b → (c : ℕ) → 1 ≤ c → c ≤ 16 → (x : Channel)
    → (h : ℕ → ℕ) → x.hold ≡ h c → ((d : ℕ) → (d ≡ c → ⊥) → h d ≡ b.holds d)
    → (v : ℕ) → (c ≡ 11 → x.bank_msb ≡ v) → ((c ≡ 11 → ⊥) → v ≡ b.bank)
    → Matches (with_channel i c x) (with_bank (with_holds b h) v)
unfolding with_channel channel_of channel_at replaced
matches_channel i b m c lo hi x h e others v own other =
    record {
      polyphony = m.polyphony;
      id = m.id;
      table = m.table;
      sixteen = length-set i.channels (c - 1) x ∙ m.sixteen;
      holds = λ d l. hold d l (eqb d c) refl;
      bank = msb (eqb 11 c) refl;
      kind = m.kind;
      playable = m.playable;
      notes = m.notes;
      well_formed = m.well_formed;
      unmasked = m.unmasked;
    }
  where
    at_c : get_or (set i.channels (c - 1) x) (c - 1) of-channel.fresh ≡ x
    at_c = let z = m.sixteen in get_or-set_same i.channels (c - 1) x of-channel.fresh (omega arith)

    elsewhere : (d : ℕ) → 1 ≤ d → (d ≡ c → ⊥) → get_or (set i.channels (c - 1) x) (d - 1) of-channel.fresh
        ≡ get_or i.channels (d - 1) of-channel.fresh
    elsewhere d l n =
        get_or-set_other i.channels (c - 1) (d - 1) x of-channel.fresh (λ (z : d - 1 ≡ c - 1). n (omega arith))

    hold : (d : ℕ) → 1 ≤ d → (y : Bool) → eqb d c ≡ y
        → (get_or (set i.channels (c - 1) x) (d - 1) of-channel.fresh).hold ≡ h d
    hold d l true q = rw (eqb-true d c q) (ap (λ (y : Channel). y.hold) at_c ∙ e)
    hold d l false q =
        let n = eqb-false d c q in
        ap (λ (y : Channel). y.hold) (elsewhere d l n) ∙ m.holds d l ∙ sym (others d n)

    msb : (y : Bool) → eqb 11 c ≡ y → (get_or (set i.channels (c - 1) x) 10 of-channel.fresh).bank_msb ≡ v
    msb true q =
        let k : c ≡ 11 = sym (eqb-true 11 c q) in
        subst (λ (d : ℕ). (get_or (set i.channels (c - 1) x) (d - 1) of-channel.fresh).bank_msb ≡ v) k
        (ap (λ (y : Channel). y.bank_msb) at_c ∙ own k)
    msb false q =
        let n = eqb-false 11 c q in
        ap (λ (y : Channel). y.bank_msb) (elsewhere 11 (omega arith) n) ∙ m.bank ∙ sym (other (λ z. n (sym z)))

-- its other numbers are replaced, and the book keeps nothing of them
matches_others : (i : Instrument) (b : Book) → Matches i b → (c : ℕ) → 1 ≤ c → c ≤ 16 → (x : Channel)
    → x.hold ≡ (channel_of i c).hold → x.bank_msb ≡ (channel_of i c).bank_msb → Matches (with_channel i c x) b
matches_others i b m c lo hi x e f =
    matches_channel i b m c lo hi x b.holds (e ∙ m.holds c lo) (λ d n. refl) b.bank
    (λ k. f ∙ ap (λ (d : ℕ). (channel_of i d).bank_msb) k ∙ m.bank) (λ n. refl)

-- a controller's hold: 64 and 121 alone touch it
controlled-hold : (x : Channel) (n v : ℕ) → (controlled x n v).hold ≡ hold_after n v x.hold
unfolding controlled reset stored
controlled-hold x n v = go (eqb n 64) refl (eqb n 121 && eqb v 0) refl
  where
    go : (a : Bool) → eqb n 64 ≡ a → (b : Bool) → eqb n 121 && eqb v 0 ≡ b
        → (controlled x n v).hold ≡ (if a then v else if b then 0 else x.hold)
    go true p b q = rw (eqb-true n 64 p)
    go false p true q = rw q
    go false p false q = rw (q, p)

-- a controller's bank: 0 alone touches it
controlled-bank : (x : Channel) (n v : ℕ) → (controlled x n v).bank_msb ≡ (if eqb n 0 then v else x.bank_msb)
unfolding controlled reset stored
controlled-bank x n v = go (eqb n 0) refl (eqb n 121 && eqb v 0) refl
  where
    go : (a : Bool) → eqb n 0 ≡ a → (b : Bool) → eqb n 121 && eqb v 0 ≡ b
        → (controlled x n v).bank_msb ≡ (if a then v else x.bank_msb)
    go true p b q = rw (eqb-true n 0 p)
    go false p true q = rw q
    go false p false q = rw (q, p)

step_control : (i : Instrument) (b : Book) → Matches i b → (c n v : ℕ)
    → 1 ≤ c → c ≤ 16 → Matches (play_control i c n v) (keep_control b c n v)
unfolding play_control of_others.notes_after with_channel
step_control i b m c n v lo hi = go (lifts_pedal n v) (silences_all n v) (ends_all n v)
  where
    x : Channel
    x = controlled (channel_of i c) n v

    h : ℕ → ℕ
    h d = if eqb d c then hold_after n v (b.holds d) else b.holds d

    s : Generators
    s = i.generators

    own : x.hold ≡ h c
    own = controlled-hold (channel_of i c) n v ∙ rw (eq-eqb c c refl) (ap (hold_after n v) (m.holds c lo))

    others : (d : ℕ) → (d ≡ c → ⊥) → h d ≡ b.holds d
    others d n = rw (ne_eqb d c n)

    z : ℕ
    z = bank_after c n v b.bank

    own-bank : c ≡ 11 → x.bank_msb ≡ z
    own-bank k = controlled-bank (channel_of i c) n v ∙ go (eqb n 0)
      where
        go : (a : Bool) → (if a then v else (channel_of i c).bank_msb) ≡ (if a && eqb c 11 then v else b.bank)
        go true = rw (eq-eqb c 11 k)
        go false = ap (λ (d : ℕ). (channel_of i d).bank_msb) k ∙ m.bank

    other-bank : (c ≡ 11 → ⊥) → z ≡ b.bank
    other-bank k = go (eqb n 0)
      where
        go : (a : Bool) → (if a && eqb c 11 then v else b.bank) ≡ b.bank
        go true = rw (ne_eqb c 11 k)
        go false = refl

    up : Bool
    up = pedal_down b c && not (is_rhythm b c)

    up' : Bool
    up' = of-instrument.pedal_down i c && not (of-instrument.is_rhythm i c)

    all-off : Matches (with_generators i (changed (change.AllNotesOff up' c) s))
        (all_freed (λ y. is_down y && is_of c y) up b)
    all-off =
        subst (λ (y : Bool). Matches (with_generators i (changed (change.AllNotesOff y c) s))
        (all_freed (λ y. is_down y && is_of c y) up b))
        (ap₂ (λ (y z : Bool). y && not z) (sym (same_pedal i b m c lo)) (sym (same-rhythm i b m c)))
        (matches_changed (change.AllNotesOff up c) i b m)

    go : (p q r : Bool)
        → Matches (with_generators (with_channel i c x) (if p then changed (change.PedalUp c) s
        else if q then silenced (leaving.Channel c) s else if r then changed (change.AllNotesOff up' c) s else s))
        (with_bank (with_holds (if p then all_freed (λ y. is_on_pedal y && is_of c y) false b
        else if q then all_freed (is_of c) false b
        else if r then all_freed (λ y. is_down y && is_of c y) up b else b) h) z)
    go true q r =
        matches_channel _ _ (matches_changed (change.PedalUp c) i b m) c lo hi x h own others z own-bank other-bank
    go false true r = matches_channel _ _ (matches_silenced c i b m) c lo hi x h own others z own-bank other-bank
    go false false true = matches_channel _ _ all-off c lo hi x h own others z own-bank other-bank
    go false false false = matches_channel _ _ m c lo hi x h own others z own-bank other-bank

-- ---- the kind of channel 11

matches_kind : (i : Instrument) (b : Book) → Matches i b → (r : Bool) → Matches (with_kind i r) (with_rhythm b r)
unfolding channel_of
matches_kind i b m r =
    record {
      polyphony = m.polyphony;
      id = m.id;
      table = m.table;
      sixteen = m.sixteen;
      holds = m.holds;
      bank = m.bank;
      kind = told r;
      playable = m.playable;
      notes = m.notes;
      well_formed = m.well_formed;
      unmasked = m.unmasked;
    }
  where
    told : (r : Bool) → eqb (bit r) 1 ≡ r
    told true = refl
    told false = refl

-- where the kind is another one its notes leave, and they are all that was busy
step_kind : (i : Instrument) (b : Book) → Matches i b → (r : Bool) → Matches (kind_set i r) (kind_kept b r)
unfolding kind_set
step_kind i b m r = rw (same-rhythm i b m 11) (go (differ r b.rhythm))
  where
    go : (x : Bool)
        → Matches (if x then with_generators (with_kind i r) (changed (change.ReleaseChannel 11) i.generators) else i)
        (if x then with_rhythm (all_freed (is_of 11) false b) r else b)
    go true = matches_kind _ _ (matches_changed (change.ReleaseChannel 11) i b m) r
    go false = m

step_program : (i : Instrument) (b : Book) → Matches i b → (c n : ℕ)
    → 1 ≤ c → c ≤ 16 → Matches (play_program i c n) (keep_program b c)
unfolding play_program
step_program i b m c n lo hi = go (eqb c 11) refl
  where
    j : Instrument
    j = with_channel i c (with_program (channel_of i c) n)

    stored-program : Matches j b
    stored-program = matches_others i b m c lo hi (with_program (channel_of i c) n) refl refl

    same_kind : c ≡ 11
        → rhythm_by (channel_of i c).bank_msb (of-instrument.is_rhythm i 11) ≡ rhythm_by b.bank b.rhythm
    same_kind k = ap₂ rhythm_by (ap (λ (d : ℕ). (channel_of i d).bank_msb) k ∙ m.bank) (same-rhythm i b m 11)

    go : (x : Bool) → eqb c 11 ≡ x
        → Matches (if x then kind_set j (rhythm_by (channel_of i c).bank_msb (of-instrument.is_rhythm i 11)) else j)
        (if x then kind_kept b (rhythm_by b.bank b.rhythm) else b)
    go true e =
        subst (λ (r : Bool). Matches (kind_set j r) (kind_kept b (rhythm_by b.bank b.rhythm)))
        (sym (same_kind (eqb-true c 11 e))) (step_kind j b stored-program (rhythm_by b.bank b.rhythm))
    go false e = stored-program

-- ---- messages

-- a message's channel is one of the sixteen
abbrev pub IsSent : Message → Type 0
IsSent (NoteOn c k) = Unit {0}
IsSent (NoteOff c k) = 1 ≤ c
IsSent (Control c n v) = (1 ≤ c) × (c ≤ 16)
IsSent (Program c n) = (1 ≤ c) × (c ≤ 16)
IsSent (Bend c msb lsb) = (1 ≤ c) × (c ≤ 16)
IsSent Other = Unit {0}

pub step_message : (i : Instrument) (b : Book) → Matches i b → (x : Message)
    → IsSent x → Matches (played i x).instrument (keep_message b x (played i x).answer)
unfolding played keep_message
step_message i b m (NoteOn c k) h = (note_law i b m c k).matches
step_message i b m (NoteOff c k) h = step_note_off i b m c k h
step_message i b m (Control c n v) h = step_control i b m c n v h.0 h.1
step_message i b m (Program c n) h = step_program i b m c n h.0 h.1
step_message i b m (Bend c msb lsb) h =
    matches_others i b m c h.0 h.1 (with_bend (channel_of i c) msb lsb) refl refl
step_message i b m Other h = m

-- ---- a new table

channel_of-listed : (c : ℕ) (l : List Entry) → Channels l → listed c l ≡ true → is_channel c ≡ true
unfolding listed
channel_of-listed c [] h e = absurd (false≢true e)
channel_of-listed c (x ∷ l) h e = go (eqb c x.channel) refl e (channel_of-listed c l h.1)
  where
    go : (b : Bool) → eqb c x.channel ≡ b → b || listed c l ≡ true
        → (listed c l ≡ true → is_channel c ≡ true) → is_channel c ≡ true
    go true q e ih =
        let k = h.0 in
        rw (eqb-true c x.channel q, le-leb 1 x.channel k.0, le-leb x.channel 16 k.1)
    go false q e ih = ih e

-- a busy generator whose channel is newly masked
abbrev pub gives_way : ℕ → Table → Table → Generator → Bool
gives_way p old new x = is_busy x && is_newly_masked p old new x.channel

pub way_busy : (p : ℕ) (old new : Table) (x : Generator) → gives_way p old new x ≡ true → is_busy x ≡ true
way_busy p old new x h = and_left (is_busy x) (is_newly_masked p old new x.channel) h

-- the busy generators whose channel is newly masked are those whose channel the new table masks: none of them was
-- masked before
module _ (i : Instrument) (b : Book) (m : Matches i b) (t : Table) (l : List Entry) (e : entries_of t ≡ l) where
  new-share : (c : ℕ) → of-table.share_of t i.polyphony c ≡ share_of (with_table b l) c
  unfolding of-table.share_of
  new-share c = ap₂ (λ (p : ℕ) (l : List Entry). lookup c (shares_from p 0 l)) m.polyphony e

  old-share : (c : ℕ) → listed c (quota b) ≡ true → is_masked (of-table.share_of i.table i.polyphony c) ≡ false
  unfolding of-table.share_of
  old-share c h =
      ap₂ (λ (p : ℕ) (l : List Entry). is_masked (lookup c (shares_from p 0 l))) m.polyphony m.table
      ∙ masked_unlisted c (quota b)
      ∙ ap not h

  newly : (c : ℕ) → listed c (quota b) ≡ true
      → is_newly_masked i.polyphony i.table t c ≡ is_masked (share_of (with_table b l) c)
  newly c h =
      rw (
        channel_of-listed c (quota b) (shares-channels b.polyphony 0 b.table m.well_formed.channels) h,
        old-share c h,
      )
      (ap is_masked (new-share c))

  abbrev way : Generator → Bool
  way x = gives_way i.polyphony i.table t x

  slot-masked : (n c k : ℕ) → IsListed (quota b) (slot_of (generator n c k))
      → slot_of (if way (generator n c k) then generator 3 c k else generator n c k)
      ≡ freed (is_of_masked (with_table b l)) false (slot_of (generator n c k))
  slot-masked n c k h =
      slot_freed (is_of_masked (with_table b l)) (way (generator n c k)) (generator 3 c k) n c k refl
      (λ q. ap (λ (x : ℕ). way (generator x c k)) q ∙ newly c (rw q at h))
      (λ q. ap (λ (x : ℕ). way (generator x c k)) q ∙ newly c (rw q at h))

  masked-listed : (x : Slot) → IsListed (quota (with_table b l)) (freed (is_of_masked (with_table b l)) false x)
  masked-listed empty = tt
  masked-listed (note p c k) = go (is_masked (share_of (with_table b l) c)) refl
    where
      go : (a : Bool) → is_masked (share_of (with_table b l) c) ≡ a
          → IsListed (quota (with_table b l)) (if a then empty else note p c k)
      go true h = tt
      go false h = listed_unmasked c (quota (with_table b l)) h

  pub step_table : WellFormed l → Matches (new_table i t) (keep_table b l)
  unfolding new_table masked channel_of
  step_table w =
      record {
        polyphony = m.polyphony;
        id = m.id;
        table = e;
        sixteen = m.sixteen;
        holds = m.holds;
        bank = m.bank;
        kind = m.kind;
        playable = playable_restated b.polyphony i.generators
            m.playable way 3 (way_busy i.polyphony i.table t) refl (omega arith);
        notes =
            sees_restated b.notes i.generators m.playable.ordered.sized way 3
            (way_busy i.polyphony i.table t) (is_of_masked (with_table b l)) false
            (λ g. slot-masked (at i.generators g).state (at i.generators g).channel
            (at i.generators g).key (subst (IsListed (quota b)) (m.notes g) (m.unmasked g)))
            m.notes;
        well_formed = w;
        unmasked = λ g. masked-listed (b.notes g);
      }

-- ---- a report

put_empty : (q : List Entry) (n : ℕ → Slot) (h : ℕ)
    → ((g : ℕ) → IsListed q (n g)) → (g : ℕ) → IsListed q (put n h empty g)
put_empty q n h u g = go (eqb g h)
  where
    go : (b : Bool) → IsListed q (if b then empty else n g)
    go true = tt
    go false = u g

pub step_report : (i : Instrument) (b : Book) → Matches i b → (g : ℕ)
    → Matches (reported i g).instrument (keep_report b g (reported i g).answer)
unfolding reported
step_report i b m g = go (leb i.polyphony g) (is_idle (at i.generators g))
  where
    ended : Reply
    ended = replied Done (with_generators i (silenced (leaving.One g) i.generators))

    go : (x y : Bool)
        → Matches (if x then replied (Number refusal.NoGenerator) i else if y then replied (Number refusal.IdleGenerator) i else ended).instrument
        (keep_report b g (if x then replied (Number refusal.NoGenerator) i else if y then replied (Number refusal.IdleGenerator) i else ended).answer)
    go true y = m
    go false true = m
    go false false =
        matches_notes i b m (silenced (leaving.One g) i.generators) (put b.notes g empty)
        (playable_silenced (leaving.One g) b.polyphony i.generators m.playable)
        (sees_one g b.notes i.generators m.playable.ordered.sized m.notes)
        (put_empty (quota b) b.notes g m.unmasked)

-- ---- a start and a reset

-- every fresh channel's hold is 0, channel 10's too
fresh-hold : (j : ℕ) → (get_or fresh_channels j of-channel.fresh).hold ≡ 0
unfolding of-channel.fresh of-channel.fresh_rhythm
fresh-hold j = go (eqb j 9) refl (ltb j 16) refl
  where
    plain : List Channel
    plain = replicate 16 of-channel.fresh

    other : (eqb j 9 ≡ false)
        → get_or (set plain 9 of-channel.fresh_rhythm) j of-channel.fresh ≡ get_or plain j of-channel.fresh
    other q =
        let n = eqb-false j 9 q in
        get_or-set_other plain 9 j of-channel.fresh_rhythm of-channel.fresh (λ (z : j ≡ 9). n z)

    go : (a : Bool) → eqb j 9 ≡ a → (b : Bool) → ltb j 16 ≡ b
        → (get_or (set plain 9 of-channel.fresh_rhythm) j of-channel.fresh).hold ≡ 0
    go true q b t = rw (eqb-true j 9 q)
    go false q true t =
        ap (λ (x : Channel). x.hold)
        (other q ∙ get_or-replicate 16 j of-channel.fresh of-channel.fresh (ltb-true j 16 t))
    go false q false t =
        ap (λ (x : Channel). x.hold)
        (other q ∙ get_or-eq_default plain of-channel.fresh {n = j} (ltb-false j 16 t))

pub step_fresh : (p id : ℕ) → p ≤ 64 → Matches (fresh p id) (fresh_book p id)
unfolding fresh channel_of channel_at of-channel.fresh
step_fresh p id h =
    record {
      polyphony = refl;
      id = refl;
      table = start_entries p;
      sixteen = refl;
      holds = λ c l. fresh-hold (c - 1);
      bank = refl;
      kind = refl;
      playable = playable_silent p h;
      notes = sees_silent;
      well_formed = subst WellFormed (start_entries p) (start_well_formed p);
      unmasked = λ g. tt;
    }

pub step_reset : (i : Instrument) (b : Book) → Matches i b
    → Matches (fresh i.polyphony i.id) (fresh_book b.polyphony b.id)
step_reset i b m = rw (m.polyphony, m.id) (step_fresh b.polyphony b.id m.playable.few)
