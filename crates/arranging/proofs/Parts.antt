-- A log in parts: after any bytes the run holds the record after the lines so far, the largest joint counts so far, and
-- the first seven bytes of the line that is not ended. So its end is the message of the whole log, however the log was
-- cut.
-- Assumes nothing.
use Rattle.std.specs.Prelude.{Some, None, if◌then◌else◌}
use mathlib.Core.Path.{◌≡◌, refl, sym, ap, ◌∙◌}
use mathlib.Core.Bool.{Bool, true, false, ◌||◌}
use mathlib.Core.List.{List, [], ◌∷◌, ◌++◌}
use mathlib.Core.Option.{Option, some, none}
use Prim.Native.Nat.{ℕ, ◌+◌, ◌≤◌, ◌<◌}
use native.Mathlib.Nat.{add-zero}
use native.Mathlib.Numerals.{add-one}
use native.Mathlib.Omega.{arith}
use borrow.Author.Tests.{ltb-true, ltb-false, ne_eqb, eq-eqb}
use lib.Dec.{eqb, ltb}
use lib.ListN.{length, take, drop, set, drop_of_length-le, get_or, replicate, length-append, length-take, length-set}
use lib.Seq.{drop-cons, take-suc-set, take_all, take-append-le}
use Rattle.loops.specs.Passes.{up_to}
use Rattle.loops.proofs.Fill.{length-up_to, at-up_to, up_to_list, up_to-same}
use Rattle.loops.proofs.Padded as padded
use Rattle.device.specs.declared.Device.{Device}
use Rattle.events.specs.declared.Event.{Event}
use Rattle.events.specs.Events.{taken}
use Rattle.event_line.specs.declared.Line.{Line}
use Rattle.event_line.specs.Log.{event_of, lines_from, lines_of, blank, put, text_of}
use Rattle.event_line.proofs.Lines.{event_seven, event_unended, has_end}
use Rattle.arranging.specs.declared.Written.{Written}
use Rattle.arranging.specs.declared.Song.{Song}
use Rattle.arranging.specs.declared.Run.{Run}
use Rattle.order.specs.Order.{is_order, order_of}
use Rattle.joint.specs.Joint.{larger, raised}
use Rattle.arranging.specs.Arranging.{fresh, spoils, at_line, fault, behind_line, looked_at, after_line, records}
use Rattle.arranging.specs.Arranging.{largest, joint, values, told, whole, refused, written_by, message}
use Rattle.arranging.specs.Run.{song, counted, is_quiet, stopped, event_played, meaning_played}
use Rattle.arranging.specs.Run.{line_played, run, byte_heard, heard, begun_by, begun, ended_by, finished}
use Rattle.arranging.proofs.Largest.{larger_none, none_larger, larger_assoc, larger-same, larger-right}
use Rattle.arranging.proofs.Quiet.{quiet_same, fresh-idle}
use Rattle.arranging.proofs.Told.{told_more}

-- two parts are one
pub heard-append : (r : Run) (a b : List ℕ) → heard r (a ++ b) ≡ heard (heard r a) b
unfolding heard
heard-append r [] b = refl
heard-append r (x ∷ a) b = heard-append (byte_heard r x) a b

-- a loop over a part: at turn i the run over what is left is the run over all of it
module _ (bs : List ℕ) (i : ℕ) (h : i < length bs) (s : Song) (l : Line) where
  turn : (r : Run) → r ≡ byte_heard (run s l) (get_or bs i 0) → heard r (drop (i + 1) bs) ≡ heard (run s l) (drop i bs)
  unfolding heard
  turn r e =
      ap (λ (x : Run). heard x (drop (i + 1) bs)) e
      ∙ ap (λ (k : ℕ). heard (byte_heard (run s l) (get_or bs i 0)) (drop k bs)) (add-one i)
      ∙ sym (ap (λ (x : List ℕ). heard (run s l) x) (drop-cons bs i 0 h))

  pub heard-line : (n : Song) (m : Line) → get_or bs i 0 ≡ 0x0A
      → n ≡ line_played s (text_of (put l (get_or bs i 0))) → m ≡ blank
      → heard (run n m) (drop (i + 1) bs) ≡ heard (run s l) (drop i bs)
  unfolding byte_heard
  heard-line n m t p q = turn (run n m) (rw (eq-eqb (get_or bs i 0) 0x0A t, p, q))

  pub heard_byte : (n : Song) (m : Line) → (get_or bs i 0 ≡ 0x0A → ⊥) → n ≡ s → m ≡ put l (get_or bs i 0)
      → heard (run n m) (drop (i + 1) bs) ≡ heard (run s l) (drop i bs)
  unfolding byte_heard
  heard_byte n m t p q = turn (run n m) (rw (ne_eqb (get_or bs i 0) 0x0A t, p, q))

pub heard_end : (bs : List ℕ) (i : ℕ) (r : Run) → length bs ≤ i → heard r (drop i bs) ≡ r
unfolding heard
heard_end bs i r h = ap (λ (x : List ℕ). heard r x) (drop_of_length-le bs h)

-- ---- the line that is not ended

record Holds (l : Line) (line : List ℕ) : Type 0 where
  text : text_of l ≡ take 7 line
  counted : l.count ≡ length (take 7 line)
  size : length l.bytes ≡ 7

holds-blank : Holds blank []
unfolding blank
holds-blank = record { text = refl; counted = refl; size = refl }

holds-put : (l : Line) (line : List ℕ) (b : ℕ) → Holds l line → Holds (put l b) (line ++ (b ∷ []))
unfolding put
holds-put l line b h = go (ltb l.count 7) refl
  where
    go : (t : Bool) → ltb l.count 7 ≡ t
        → Holds (if t then record { count = l.count + 1; bytes = set l.bytes l.count b } else l)
        (line ++ (b ∷ []))
    go true e =
        let k : l.count < 7 = ltb-true l.count 7 e in
        let n = length-take 7 line in
        let c = h.counted in
        let s = h.size in
        let m = length-append line (b ∷ []) in
        let w : take 7 line ≡ line = take_all 7 line (omega arith) in
        let v : take 7 (line ++ (b ∷ [])) ≡ line ++ (b ∷ []) = take_all 7 (line ++ (b ∷ [])) (omega arith) in
        let t : text_of l ≡ line = h.text ∙ w in
        let x : take (l.count + 1) (set l.bytes l.count b) ≡ text_of l ++ (b ∷ []) =
        rw (add-one l.count) (take-suc-set l.bytes l.count b (omega arith)) in
        let y : length (take 7 line) ≡ length line = ap length w in
        let z : length (take 7 (line ++ (b ∷ []))) ≡ length line + 1 = ap length v ∙ m in
        record {
          text = x ∙ ap (λ (q : List ℕ). q ++ (b ∷ [])) t ∙ sym v;
          counted = omega arith;
          size = length-set l.bytes l.count b ∙ s;
        }
    go false e =
        let k : 7 ≤ l.count = ltb-false l.count 7 e in
        let n = length-take 7 line in
        let c = h.counted in
        let v : take 7 (line ++ (b ∷ [])) ≡ take 7 line = take-append-le 7 line (b ∷ []) (omega arith) in
        record { text = h.text ∙ sym v; counted = h.counted ∙ ap length (sym v); size = h.size }

-- ---- what the rest of a log comes to, with the largest joint counts so far

abbrev most_of : List ℕ → List ℕ → List Device → ℕ → ℕ
most_of order most ds k = larger (get_or most k 0) (largest (joint order k) ds)

abbrev outcome : List ℕ → List ℕ → List Device → ℕ → Option ℕ → Written
outcome order most ds n none = whole order (up_to (most_of order most ds) 16) (told n)
outcome order most ds n (some f) = refused f (told n)

outcome_raised : (order most : List ℕ) (d : Device) (ds : List Device) (n : ℕ) (f : Option ℕ)
    → outcome order (raised order most d.instrument.generators) ds n f ≡ outcome order most (d ∷ ds) n f
unfolding raised largest
outcome_raised order most d ds n (some f) = refl
outcome_raised order most d ds n none =
    ap (λ (vs : List ℕ). whole order vs (told n))
    (up_to-same (most_of order (raised order most d.instrument.generators) ds) (most_of order most (d ∷ ds)) 16
    (λ k h. ap (λ (x : ℕ). larger x (largest (joint order k) ds))
    (at-up_to (λ (k : ℕ). larger (get_or most k 0) (joint order k d)) 0 16 k h)
    ∙ larger_assoc (get_or most k 0) (joint order k d) (largest (joint order k) ds)))

-- the largest joint counts so far cover those of a record
abbrev Covers : List ℕ → List ℕ → Device → Type 0
Covers order most d = (k : ℕ) → k < 16 → joint order k d ≤ get_or most k 0

-- a record that is covered adds nothing
outcome_covered : (order most : List ℕ) (d : Device) (ds : List Device) (n : ℕ) (f : Option ℕ)
    → Covers order most d → outcome order most ds n f ≡ outcome order most (d ∷ ds) n f
unfolding largest
outcome_covered order most d ds n (some f) c = refl
outcome_covered order most d ds n none c =
    ap (λ (vs : List ℕ). whole order vs (told n))
    (up_to-same (most_of order most ds) (most_of order most (d ∷ ds)) 16
    (λ k h. ap (λ (x : ℕ). larger x (largest (joint order k) ds))
    (sym (larger-same (get_or most k 0) (joint order k d) (c k h)))
    ∙ larger_assoc (get_or most k 0) (joint order k d) (largest (joint order k) ds)))

covers_raised : (order most : List ℕ) (d : Device) → Covers order (raised order most d.instrument.generators) d
unfolding raised
covers_raised order most d k h =
    let e = at-up_to (λ (k : ℕ). larger (get_or most k 0) (joint order k d)) 0 16 k h in
    let a = larger-right (get_or most k 0) (joint order k d) in
    omega arith

covers_fresh : (order : List ℕ) → Covers order (replicate 16 0) fresh
covers_fresh order k h = let e = fresh-idle (take (k + 1) order) in omega arith

outcome_fresh : (order : List ℕ) (ds : List Device) (n : ℕ) (f : Option ℕ)
    → outcome order (replicate 16 0) ds n f ≡ written_by order ds (told n) f
unfolding values
outcome_fresh order ds n (some f) = refl
outcome_fresh order ds n none =
    ap (λ (vs : List ℕ). whole order vs (told n))
    (up_to-same (most_of order (replicate 16 0) ds) (λ (k : ℕ). largest (joint order k) ds) 16
    (λ k h. ap (λ (x : ℕ). larger x (largest (joint order k) ds)) (padded.blank 0 16 k)
    ∙ none_larger (largest (joint order k) ds)))

-- ---- the claim, of every run in which no number fell

-- behind a number nothing is looked at
pub stays : (log : List ℕ) (s : Song) (l : Line) → eqb s.number 0 ≡ false
    → finished (heard (run s l) log) ≡ refused s.number s.lines
unfolding finished heard byte_heard line_played
stays [] s l h = rw h
stays (b ∷ log) s l h = go (eqb b 0x0A) (λ m. stays log s m h)
  where
    go : (t : Bool) → ((m : Line) → finished (heard (run s m) log) ≡ refused s.number s.lines)
        → finished (heard (if t then run (if eqb s.number 0 then meaning_played s (event_of (text_of (put l b))) else s)
        blank else run s (put l b)) log) ≡ refused s.number s.lines
    go true ih = rw h (ih blank)
    go false ih = ih (put l b)

-- n lines were looked at
abbrev Claim : List ℕ → List ℕ → Type 0
Claim order log = (d : Device) (most : List ℕ) (n : ℕ) (l : Line) (line : List ℕ)
    → Holds l line → has_end line ≡ false → length most ≡ 16 → Covers order most d
    → finished (heard (run (song d order most (told n) 0) l) log) ≡ outcome order most
    (records d (lines_from line log)) (n + looked_at d (lines_from line log)) (fault d (lines_from line log))

-- nothing is left
at_end : (order : List ℕ) → Claim order []
unfolding finished ended_by heard lines_from records fault at_line looked_at behind_line largest
at_end order d most n l [] h e m v =
    rw (h.counted, add-zero n)
    (ap (λ (vs : List ℕ). whole order vs (told n))
    (sym (up_to_list (most_of order most []) 0 most 16 m (λ k s. larger_none (get_or most k 0)))))
at_end order d most n l (x ∷ line) h e m v =
    rw (ne_eqb l.count 0 (λ q. let c = h.counted in omega arith), event_unended (x ∷ line) e)
    (ap (refused 15) (told_more n))

raised_16 : (order most : List ℕ) (d : Device) → length (raised order most d.instrument.generators) ≡ 16
unfolding raised
raised_16 order most d = length-up_to (λ (k : ℕ). larger (get_or most k 0) (joint order k d)) 16

-- a line is ended: its event decides
module _ (order log : List ℕ) (ih : Claim order log) (d : Device)
    (most : List ℕ) (n : ℕ) (m : length most ≡ 16) (v : Covers order most d) where
  abbrev rest : List (List ℕ)
  rest = lines_from [] log

  -- a number falls
  falls : (f : ℕ) (ds : List Device) → eqb f 0 ≡ false
      → finished (heard (run (stopped (song d order most (told n) 0) f) blank) log)
      ≡ outcome order most ds (n + 1) (some f)
  unfolding stopped
  falls f ds h = stays log (song d order most (counted (told n)) f) blank h ∙ ap (refused f) (told_more n)

  -- none falls
  goes_on : (e : Event) (q : Bool) → is_quiet (taken d e).answer ≡ q
      → finished (heard (run (song (taken d e).device order (if q then most
      else (raised order most (taken d e).device.instrument.generators)) (counted (told n)) 0) blank) log)
      ≡ outcome order most ((taken d e).device ∷ records (taken d e).device rest)
      (n + (1 + looked_at (taken d e).device rest)) (fault (taken d e).device rest)
  goes_on e true t =
      let r = (taken d e).device in
      let c : Covers order most r = λ k h. rw (quiet_same d e t) (v k h) in
      let k : n + 1 + looked_at r rest ≡ n + (1 + looked_at r rest) = omega arith in
      ap (λ (x : ℕ). finished (heard (run (song r order most x 0) blank) log)) (told_more n)
      ∙ ih r most (n + 1) blank [] holds-blank refl m c
      ∙ ap (λ (x : ℕ). outcome order most (records r rest) x (fault r rest)) k
      ∙ outcome_covered order most r (records r rest) (n + (1 + looked_at r rest)) (fault r rest) c
  goes_on e false t =
      let r = (taken d e).device in
      let up = raised order most r.instrument.generators in
      let k : n + 1 + looked_at r rest ≡ n + (1 + looked_at r rest) = omega arith in
      ap (λ (x : ℕ). finished (heard (run (song r order up x 0) blank) log)) (told_more n)
      ∙ ih r up (n + 1) blank [] holds-blank refl (raised_16 order most r) (covers_raised order most r)
      ∙ ap (λ (x : ℕ). outcome order up (records r rest) x (fault r rest)) k
      ∙ outcome_raised order most r (records r rest) (n + (1 + looked_at r rest)) (fault r rest)

  at-line : (o : Option Event)
      → finished (heard (run (meaning_played (song d order most (told n) 0) o) blank) log)
      ≡ outcome order most (after_line d o ∷ records (after_line d o) rest)
      (n + (1 + behind_line d (λ r. looked_at r rest) o)) (at_line d (λ r. fault r rest) o)
  unfolding after_line at_line behind_line event_played
  at-line none = falls 15 (d ∷ records d rest) refl
  at-line (some e) = go (spoils d e)
    where
      go : (t : Bool)
          → finished (heard (run (if t then stopped (song d order most (told n) 0) 17
          else song (taken d e).device order (if is_quiet (taken d e).answer then most
          else (raised order most (taken d e).device.instrument.generators)) (counted (told n)) 0) blank) log)
          ≡ outcome order most ((taken d e).device ∷ records (taken d e).device rest)
          (n + (1 + (if t then 0 else looked_at (taken d e).device rest)))
          (if t then some 17 else fault (taken d e).device rest)
      go true = falls 17 ((taken d e).device ∷ records (taken d e).device rest) refl
      go false = goes_on e (is_quiet (taken d e).answer) refl

no_end_more : (line : List ℕ) (b : ℕ) → has_end line ≡ false → eqb b 0x0A ≡ false → has_end (line ++ (b ∷ [])) ≡ false
no_end_more [] b h k = rw k
no_end_more (x ∷ line) b h k = go (eqb x 0x0A) h (λ s. no_end_more line b s k)
  where
    go : (t : Bool) → t || has_end line ≡ false
        → (has_end line ≡ false → has_end (line ++ (b ∷ [])) ≡ false) → t || has_end (line ++ (b ∷ [])) ≡ false
    go true s ih = s
    go false s ih = ih s

at_byte : (order log : List ℕ) (b : ℕ) → Claim order log → Claim order (b ∷ log)
unfolding heard byte_heard line_played lines_from records fault looked_at
at_byte order log b ih d most n l line h e m v = go (eqb b 0x0A) refl
  where
    said : event_of (text_of (put l b)) ≡ event_of (line ++ (b ∷ []))
    said = ap event_of (holds-put l line b h).text ∙ event_seven (line ++ (b ∷ []))

    go : (t : Bool) → eqb b 0x0A ≡ t
        → finished (heard (if t then run (meaning_played (song d order most (told n) 0) (event_of (text_of (put l b))))
        blank else run (song d order most (told n) 0) (put l b)) log)
        ≡ outcome order most
        (records d (if t then (line ++ (b ∷ [])) ∷ lines_from [] log else lines_from (line ++ (b ∷ [])) log))
        (n + looked_at d (if t then (line ++ (b ∷ [])) ∷ lines_from [] log else lines_from (line ++ (b ∷ [])) log))
        (fault d (if t then (line ++ (b ∷ [])) ∷ lines_from [] log else lines_from (line ++ (b ∷ [])) log))
    go true t =
        ap (λ (o : Option Event).
        finished (heard (run (meaning_played (song d order most (told n) 0) o) blank) log)) said
        ∙ at-line order log ih d most n m v (event_of (line ++ (b ∷ [])))
    go false t = ih d most n (put l b) (line ++ (b ∷ [])) (holds-put l line b h) (no_end_more line b e t) m v

comes : (order log : List ℕ) → Claim order log
comes order [] = at_end order
comes order (b ∷ log) = at_byte order log b (comes order log)

-- the end of a run over a log is the log's message
pub parts : (order log : List ℕ) → finished (heard (begun order) log) ≡ message order log
unfolding begun_by message order_of
parts order log = go (is_order order)
  where
    go : (t : Bool)
        → finished (heard (begun_by (if t then Some order else None)) log)
        ≡ (if t then written_by order (records fresh (lines_of log))
        (told (looked_at fresh (lines_of log))) (fault fresh (lines_of log)) else refused 16 0)
    go true =
        let n = looked_at fresh (lines_of log) in
        let k : 0 + n ≡ n = omega arith in
        comes order log fresh (replicate 16 0) 0 blank [] holds-blank refl refl (covers_fresh order)
        ∙ ap (λ (x : ℕ). outcome order (replicate 16 0) (records fresh (lines_of log)) x (fault fresh (lines_of log))) k
        ∙ outcome_fresh order (records fresh (lines_of log)) (looked_at fresh (lines_of log))
        (fault fresh (lines_of log))
    go false = stays log (song fresh (replicate 16 0) (replicate 16 0) 0 16) blank refl
