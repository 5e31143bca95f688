-- P1 to P9 in one proof. The definitions compute to what is written beside them, and where P is a variable (P3, P4)
-- to the one comparison that P and the value decide.
-- Assumes nothing.
use Rattle.std.specs.Prelude.{if◌then◌else◌, Result, Ok}
use mathlib.Core.Path.{◌≡◌, refl, ap, ap₂, ◌∙◌}
use mathlib.Core.Bool.{Bool, true, false, not, ◌||◌}
use mathlib.Core.List.{List, [], ◌∷◌, ◌++◌}
use mathlib.Core.Option.{some, none}
use Prim.Native.Nat.{ℕ, ◌+◌, ◌-◌, ◌≤◌, ◌<◌}
use native.Mathlib.Omega.{arith}
use borrow.Author.Tests.{lt-ltb, le-ltb, le-leb, lt-leb}
use lib.Dec.{leb}
use Rattle.loops.specs.Passes.{up_to, total, filter_by, first_of, padded}
use Rattle.splitter.specs.Split.{quiet, begun, stored, one_data_byte, completed}
use Rattle.splitter.specs.Split.{data_byte, opened, ended, status_byte, split}
use Rattle.message.specs.Message.{decode}
use Rattle.table.specs.Table.{entry, table_of, start_table, listed}
use Rattle.shares.specs.Shares.{shares_from, lookup, share_of, is_masked}
use Rattle.sysex.specs.SysEx.{is_mip, is_system_on, kind_of}
use Rattle.mip.specs.Mip.{pairs, faulty, judged_by, judged}
use Rattle.drums.specs.Drums.{group_of, excludes}
use Rattle.ages.specs.Ages.{ages_of, newest}
use Rattle.generators.specs.Generators.{assigned, silent}
use Rattle.releases.specs.Releases.{changes, state_after, changed}
use Rattle.silence.specs.Silence.{is_among, leaves, silenced}
use Rattle.candidates.specs.Candidates.{lowest_idle, wanted, oldest, stolen_first, busy_count}
use Rattle.stealing.specs.Stealing.{over_share, steal_from, victim}
use Rattle.allocation.specs.Allocation.{cleared, choice, note_on}
use Rattle.instrument.specs.Instrument.{fresh, is_rhythm}
use Rattle.masking.specs.Masking.{masked}
use Rattle.playing.specs.declared.Answer.TheVariants.{Done, Number}
use Rattle.playing.specs.Playing.{play_note_on, played}
use Rattle.device.specs.declared.Device.{Device}
use Rattle.device.specs.Device.{fresh_device, fresh_output, output_of, started, heard, byte_taken, after_bytes}
use Rattle.exclusive.specs.Exclusive.{new_table, judged_reply, mip_taken, exclusive}
use Rattle.refusals.specs.declared.Refusal.{Refusal}
use Rattle.refusals.specs.declared.Refusal.TheVariants as refusal
use Rattle.queries.specs.Queries.{generator_query, mask_query, share_query}
use Rattle.examples.specs.Examples.{Seen, mask, mip, mask_by, P1, P2, P3, P4}
use Rattle.examples.specs.Examples.{P5, P6, P7, P8, P9, computed, printed}
use Rattle.examples.specs.Examples as example

-- a start with P from 1 to 64 is granted
granted : (p : ℕ) → 1 ≤ p → p ≤ 64 → example.fresh p ≡ fresh_device p 0
unfolding started
granted p lo hi = ap₂ (λ (x y : Bool). (if x || y then fresh_output (Number refusal.WrongPolyphony) 1 0 else fresh_output Done p 0).device)
    (le-ltb p 1 lo) (le-ltb 64 p hi)

-- a MIP message with one channel and any value: three comparisons, and the last is of value and P
module _ (p v : ℕ) where
  -- the device before the value, and with it
  abbrev opened-mip : Device
  opened-mip = after_bytes (fresh_device p 0) (0xF0 ∷ 0x7F ∷ 0x7F ∷ 0x0B ∷ 0x01 ∷ 0x00 ∷ [])

  abbrev valued : Device
  valued = record { parser = stored opened-mip.parser v; instrument = opened-mip.instrument }

  -- it is a data byte
  value-stored : v < 128 → (byte_taken opened-mip v).device ≡ valued
  unfolding begun stored one_data_byte data_byte opened ended status_byte split heard byte_taken after_bytes
  value-stored h =
      ap (λ (t : Bool). let q = if t then data_byte opened-mip.parser v else status_byte opened-mip.parser v in
      (output_of q.parser (heard opened-mip.instrument opened-mip.parser q.completed)).device)
      (lt-ltb v 128 h)

  -- it isn't below the value before it, of which there is none
  accepted-mip : mask_query (byte_taken valued 0xF7).device 1 ≡ Ok (is_masked (share_of (table_of (entry 1 v ∷ [])) p 1))
  unfolding begun stored one_data_byte data_byte opened ended status_byte split listed is_mip is_system_on
      kind_of pairs faulty judged fresh new_table mip_taken exclusive heard byte_taken after_bytes mask_query
  accepted-mip =
      ap (λ (t : Bool). let j = judged_by (entry 1 v ∷ []) (if t then some refusal.MipFallingValue else none) in
      mask_query (record { parser = quiet; instrument = (judged_reply (fresh p 0) j).instrument }) 1)
      (le-ltb v 0 (omega arith))

  -- the channel has its value for a share, or is masked
  one-channel : (t : Bool) → leb v p ≡ t
      → is_masked (share_of (table_of (entry 1 v ∷ [])) p 1) ≡ not t
  unfolding padded table_of shares_from lookup share_of
  one-channel t e = ap (λ (t : Bool). is_masked (lookup 1 (if t then entry 1 (v - 0) ∷ [] else []))) e ∙ go t
    where
      go : (t : Bool)
          → is_masked (lookup 1 (if t then entry 1 (v - 0) ∷ [] else [])) ≡ not t
      go true = refl
      go false = refl

  mask-by : 1 ≤ p → p ≤ 64 → v < 128 → (t : Bool) → leb v p ≡ t
      → mask_by p v ≡ mask (Ok (not t)) ∷ []
  unfolding after_bytes
  mask-by lo hi h t e =
      ap (λ (d : Device). mask (mask_query (after_bytes d (mip (0x00 ∷ v ∷ []))) 1) ∷ []) (granted p lo hi)
      ∙ ap (λ (d : Device). mask (mask_query (byte_taken d 0xF7).device 1) ∷ []) (value-stored h)
      ∙ ap (λ (x : Result Bool Refusal). mask x ∷ []) (accepted-mip ∙ ap Ok (one-channel t e))

fixed : P1 ++ P2 ++ (mask (Ok false) ∷ []) ++ (mask (Ok true) ∷ []) ++ P5 ++ P6 ++ P7 ++ P8 ++ P9 ≡ printed
unfolding up_to total filter_by first_of padded begun stored one_data_byte completed data_byte opened ended status_byte
    split decode table_of start_table listed shares_from lookup share_of share_query is_mip is_system_on kind_of pairs
    faulty judged group_of excludes ages_of newest assigned silent changes state_after changed is_among leaves
    silenced lowest_idle wanted oldest stolen_first busy_count over_share steal_from victim cleared choice note_on
    fresh is_rhythm masked play_note_on played started new_table mip_taken exclusive heard byte_taken after_bytes
    generator_query P1 P2 P5 P6 P7 P8 P9 printed
fixed = refl

pub paper_examples : (p : ℕ) → 1 ≤ p → p ≤ 64 → computed p ≡ printed
unfolding P3 P4 computed
paper_examples p lo hi =
    ap₂ (λ (x y : List Seen). P1 ++ P2 ++ x ++ y ++ P5 ++ P6 ++ P7 ++ P8 ++ P9)
    (mask-by p p lo hi (omega arith) true (le-leb p p (omega arith)))
    (mask-by p (p + 1) lo hi (omega arith) false (lt-leb (p + 1) p (omega arith)))
    ∙ fixed
