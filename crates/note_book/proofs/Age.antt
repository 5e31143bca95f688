-- The order of age over a list. Invariant: the order in the record is that of the generators which note answers
-- named, each at its last one, with those that no longer sound left out. Only a note-on's assignment puts a generator
-- last, and its answer names that generator.
-- Assumes nothing.
use Rattle.std.specs.Prelude.{if◌then◌else◌}
use mathlib.Core.Path.{refl, sym, subst}
use mathlib.Core.Bool.{Bool, true, false}
use mathlib.Core.List.{List, [], ◌∷◌}
use Prim.Native.Nat.{ℕ}
use lib.Dec.{eqb, leb}
use Rattle.channels.specs.Channel.{with_program, rhythm_by}
use Rattle.loops.specs.Cases.{differ}
use Rattle.loops.proofs.Cases.{by_both}
use Rattle.message.specs.declared.Message.TheVariants.{NoteOn, NoteOff, Control, Program, Bend, Other}
use Rattle.table.specs.declared.Table.{Table}
use Rattle.generators.specs.declared.Generators.{Generators}
use Rattle.generators.specs.Generators.{at, is_idle}
use Rattle.releases.specs.declared.Change.TheVariants as change
use Rattle.releases.specs.Releases.{changed}
use Rattle.silence.specs.declared.Leaving.TheVariants as leaving
use Rattle.silence.specs.Silence.{silenced}
use Rattle.age_law.proofs.Assigned.{Ordered, Follows, follows_restated}
use Rattle.age_law.proofs.Assigned.{follows_changed, follows_silenced, follows_silent}
use Rattle.instrument.specs.declared.Instrument.{Instrument}
use Rattle.instrument.specs.Instrument.{fresh, with_channel, with_kind, with_generators}
use Rattle.instrument.specs.Instrument as of-instrument
use Rattle.masking.specs.Masking.{masked}
use Rattle.playing.specs.declared.Answer.{Answer}
use Rattle.refusals.specs.declared.Refusal.TheVariants as refusal
use Rattle.playing.specs.declared.Answer.TheVariants.{Done, Number}
use Rattle.playing.specs.Playing.{replied, played}
use Rattle.controllers.specs.Controllers.{lifts_pedal, silences_all, ends_all}
use Rattle.other_messages.specs.OtherMessages.{notes_after, play_note_off, play_control, kind_set, play_program}
use Rattle.reports.specs.Reports.{reported}
use Rattle.exclusive.specs.Exclusive.{new_table}
use Rattle.note_book.specs.Book.{Book, Heard}
use Rattle.note_book.specs.Claim.{System, after}
use Rattle.note_book.specs.Age.{named, by_answers, AgeByAnswers}
use Rattle.note_book.proofs.Matches.{Matches, note_law}
use Rattle.note_book.proofs.Steps.{gives_way, way_busy}
use Rattle.note_book.proofs.Run.{Right, right-nothing, right-message, right-table}
use Rattle.note_book.proofs.Run.{right-reset, right-report, Lawful, Fine, fine_next}

follows_kind : (i : Instrument) → Ordered i.generators → (l : List ℕ) → Follows i.generators l
    → (r : Bool) → Follows (kind_set i r).generators l
unfolding kind_set
follows_kind i o l f r = go (differ r (of-instrument.is_rhythm i 11))
  where
    go : (x : Bool) → Follows (if x then with_generators (with_kind i r)
        (changed (change.ReleaseChannel 11) i.generators) else i).generators l
    go true = follows_changed (change.ReleaseChannel 11) i.generators o l f
    go false = f

module _ (i : Instrument) (o : Ordered i.generators) (l : List ℕ) (f : Follows i.generators l) where
  follows-off : (c k : ℕ) → Follows (play_note_off i c k).generators l
  unfolding play_note_off
  follows-off c k = go (of-instrument.is_rhythm i c)
    where
      go : (r : Bool) → Follows (if r then i else with_generators i
          (changed (change.NoteOff (of-instrument.pedal_down i c) c k) i.generators)).generators l
      go true = f
      go false = follows_changed (change.NoteOff (of-instrument.pedal_down i c) c k) i.generators o l f

  follows-control : (c n v : ℕ) → Follows (play_control i c n v).generators l
  unfolding play_control notes_after
  follows-control c n v =
      by_both kept (lifts_pedal n v) _ _ (follows_changed (change.PedalUp c) i.generators o l f)
      (by_both kept (silences_all n v) _ _ (follows_silenced (leaving.Channel c) i.generators o l f)
      (by_both kept (ends_all n v) _ _ (follows_changed (change.AllNotesOff _ c) i.generators o l f) f))
    where
      kept : Generators → Type 0
      kept s = Follows s l

  follows-program : (c n : ℕ) → Follows (play_program i c n).generators l
  unfolding play_program with_channel
  follows-program c n = go (eqb c 11)
    where
      j : Instrument
      j = with_channel i c (with_program (of-instrument.channel_of i c) n)

      r : Bool
      r = rhythm_by (of-instrument.channel_of i c).bank_msb (of-instrument.is_rhythm i 11)

      go : (x : Bool) → Follows (if x then kind_set j r else j).generators l
      go true = follows_kind j o l f r
      go false = f

  follows-table : (t : Table) → Follows (new_table i t).generators l
  unfolding new_table masked
  follows-table t = follows_restated i.generators o
      (gives_way i.polyphony i.table t) 3 (way_busy i.polyphony i.table t) refl l f

  follows-report : (g : ℕ) → Follows (reported i g).instrument.generators (named l (reported i g).answer)
  unfolding reported
  follows-report g = go (leb i.polyphony g) (is_idle (at i.generators g))
    where
      go : (x y : Bool)
          → Follows (if x then replied (Number refusal.NoGenerator) i else if y then replied (Number refusal.IdleGenerator) i
          else replied Done (with_generators i (silenced (leaving.One g) i.generators))).instrument.generators
          (named l (if x then replied (Number refusal.NoGenerator) i else if y then replied (Number refusal.IdleGenerator) i
          else replied Done (with_generators i (silenced (leaving.One g) i.generators))).answer)
      go true y = f
      go false true = f
      go false false = follows_silenced (leaving.One g) i.generators o l f

-- where nothing sounds
pub nothing_sounds : (p id : ℕ) → Follows (fresh p id).generators []
unfolding fresh
nothing_sounds p id = follows_silent []

after-reset : (p id : ℕ) (l : List ℕ) → Follows (fresh p id).generators l
unfolding fresh
after-reset p id l = follows_silent l

pub step : (i j : Instrument) (b : Book) (h : Heard) (a : Answer) → Right i b h a j → Matches i b
    → (l : List ℕ) → Follows i.generators l → Follows j.generators (named l a)
unfolding played with_channel
step i j b h a (right-nothing x n) m l f = subst (Follows i.generators) (sym (n l)) f
step i j b h a (right-message (NoteOn c k) s) m l f = (note_law i b m c k).follows l f
step i j b h a (right-message (NoteOff c k) s) m l f = follows-off i m.playable.ordered l f c k
step i j b h a (right-message (Control c n v) s) m l f = follows-control i m.playable.ordered l f c n v
step i j b h a (right-message (Program c n) s) m l f = follows-program i m.playable.ordered l f c n
step i j b h a (right-message (Bend c x y) s) m l f = f
step i j b h a (right-message Other s) m l f = f
step i j b h a (right-table t w) m l f = follows-table i m.playable.ordered l f t
step i j b h a right-reset m l f = after-reset i.polyphony i.id l
step i j b h a (right-report g) m l f = follows-report i m.playable.ordered l f g

module _ (S : System) (L : Lawful S) where
  by-answers : (s : S.State) → Fine S L s → (l : List ℕ)
      → Follows (S.instrument s).generators l → (es : List S.Event)
      → Follows (S.instrument (after S s es)).generators (by_answers S l s es)
  unfolding after
  by-answers s f l q [] = q
  by-answers s f l q (e ∷ es) =
      by-answers (S.next s e) (fine_next S L s f e) (named l (S.answer s e))
      (step (S.instrument s) (S.instrument (S.next s e)) (S.book s) (S.hears s e)
      (S.answer s e) (L.right s e f.is f.matches) f.matches l q) es

  pub age_by_answers : (s : S.State) → Fine S L s
      → Follows (S.instrument s).generators [] → (es : List S.Event) → AgeByAnswers S s es
  age_by_answers s f q es = by-answers s f [] q es
