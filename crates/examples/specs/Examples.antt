-- P1 to P9 of docs/RULES.md as one list of what the definitions say, and one of what is written there. All go through
-- the bytes, from a start on.
use Rattle.std.specs.Prelude.{ℕ, ◌+◌, Bool, true, false, List, [], ◌∷◌, ◌++◌, replicate, Result, Ok}
use Rattle.refusals.specs.declared.Refusal.{Refusal}
use Rattle.refusals.specs.declared.Refusal.TheVariants as refusal
use Rattle.generators.specs.Generators.{held}
use Rattle.allocation.specs.declared.Was.TheVariants.{Idle, Stolen}
use Rattle.playing.specs.declared.Answer.{Answer}
use Rattle.playing.specs.declared.Answer.TheVariants.{Nothing, Done, Note, NoNote, Number}
use Rattle.device.specs.declared.Device.{Device}
use Rattle.device.specs.Device.{started, byte_taken, after_bytes}
use Rattle.queries.specs.declared.GeneratorState.{GeneratorState}
use Rattle.queries.specs.Queries.{generator_query, mask_query, share_query}

-- the answer to the last of some bytes
abbrev pub last_answer : Device → List ℕ → Answer
last_answer d [] = Nothing
last_answer d (b ∷ []) = (byte_taken d b).answer
last_answer d (b ∷ c ∷ l) = last_answer (byte_taken d b).device (c ∷ l)

abbrev pub fresh : ℕ → Device
fresh p = (started p 0).device

-- what an example looks at
pub data Seen : Type 0 where
  answer : Answer → Seen
  -- state, channel and key
  generator : Result GeneratorState Refusal → Seen
  -- whether it is masked
  mask : Result Bool Refusal → Seen
  share : Result ℕ Refusal → Seen

-- a generator that is told, by its state, channel and key
abbrev pub generator_is : ℕ → ℕ → ℕ → Seen
generator_is x c k = generator (Ok (record { state = x; channel = c; key = k }))

-- a MIP message
abbrev pub mip : List ℕ → List ℕ
mip l = 0xF0 ∷ 0x7F ∷ 0x7F ∷ 0x0B ∷ 0x01 ∷ (l ++ (0xF7 ∷ []))

-- P1, P2: channels 1, 2, 3 with values 3, 7, 10 of P 10, and 2, 6, 2 of their generators busy
abbrev pub crowd : List ℕ
crowd =
    mip (0x00 ∷ 3 ∷ 0x01 ∷ 7 ∷ 0x02 ∷ 10 ∷ [])
    ++ (0x90 ∷ 60 ∷ 64 ∷ 61 ∷ 64 ∷ [])
    ++ (0x91 ∷ 60 ∷ 64 ∷ 61 ∷ 64 ∷ 62 ∷ 64 ∷ 63 ∷ 64 ∷ 64 ∷ 64 ∷ 65 ∷ 64 ∷ [])
    ++ (0x92 ∷ 60 ∷ 64 ∷ 61 ∷ 64 ∷ [])

-- P9: sixteen pairs
abbrev pub sixteen : List ℕ
sixteen =
    0 ∷ 1 ∷ 1 ∷ 1 ∷ 2 ∷ 1 ∷ 3 ∷ 1 ∷ 4 ∷ 1 ∷ 5 ∷ 1 ∷ 6 ∷ 1 ∷ 7 ∷ 1
    ∷ 8 ∷ 1 ∷ 9 ∷ 1 ∷ 10 ∷ 1 ∷ 11 ∷ 1 ∷ 12 ∷ 1 ∷ 13 ∷ 1 ∷ 14 ∷ 1 ∷ 15 ∷ 1 ∷ []

-- the answer to the last of these bytes
abbrev pub answered : Device → List ℕ → List Seen
answered d l = answer (last_answer d l) ∷ []

-- a note-on, velocity 64, that takes generator g: what g was just before the last byte, and the answer
abbrev pub note_on : Device → List ℕ → ℕ → ℕ → List Seen
note_on d l key g = generator (generator_query (after_bytes d (l ++ (key ∷ []))) g) ∷ answered d (l ++ (key ∷ 64 ∷ []))

-- whether channel 1, alone in the table with this value, is masked among P generators
abbrev pub mask_by : ℕ → ℕ → List Seen
mask_by p value = mask (mask_query (after_bytes (fresh p) (mip (0x00 ∷ value ∷ []))) 1) ∷ []

-- the share of channel c by this table among 10 generators
abbrev pub share_by : List ℕ → ℕ → List Seen
share_by l c = share (share_query (after_bytes (fresh 10) (mip l)) c) ∷ []

-- what the definitions say; P3 and P4 speak of every P
unfoldable pub P1 : List Seen
P1 = note_on (fresh 10) crowd 62 2

unfoldable pub P2 : List Seen
P2 = note_on (fresh 10) (crowd ++ (62 ∷ 64 ∷ [])) 63 8

unfoldable pub P3 : ℕ → List Seen
P3 p = mask_by p p

unfoldable pub P4 : ℕ → List Seen
P4 p = mask_by p (p + 1)

unfoldable pub P5 : List Seen
P5 = share_by (0x00 ∷ 5 ∷ 0x01 ∷ 5 ∷ []) 1 ++ share_by (0x00 ∷ 5 ∷ 0x01 ∷ 5 ∷ []) 2

unfoldable pub P6 : List Seen
P6 = note_on (fresh 1) (0x90 ∷ 0x3C ∷ 0x40 ∷ 0x99 ∷ []) 0x24 0

unfoldable pub P7 : List Seen
P7 = answered (fresh 1) (0x99 ∷ 0x24 ∷ 0x40 ∷ 0x90 ∷ 0x3C ∷ 0x40 ∷ [])

unfoldable pub P8 : List Seen
P8 = note_on (fresh 4) (0x99 ∷ 0x2E ∷ 0x40 ∷ []) 0x2A 0

unfoldable pub P9 : List Seen
P9 = answered (fresh 1) (mip sixteen) ++ answered (fresh 1) (mip (replicate 33 0))

unfoldable pub computed : ℕ → List Seen
computed p = P1 ++ P2 ++ P3 p ++ P4 p ++ P5 ++ P6 ++ P7 ++ P8 ++ P9

-- what is written
unfoldable pub printed : List Seen
printed =
    -- P1: channel 2 loses, whose oldest note, key 60, is on generator 2
    generator_is held 2 60
    ∷ answer (Note 3 62 2 Stolen)
    -- P2: channel 3 itself loses, whose oldest is on 8
    ∷ generator_is held 3 60
    ∷ answer (Note 3 63 8 Stolen)
    -- P3, P4: value P, and P + 1; P5: the shares of values 5, 5
    ∷ mask (Ok false)
    ∷ mask (Ok true)
    ∷ share (Ok 5)
    ∷ share (Ok 0)
    -- P6: channel 1 loses; P7: number 11
    ∷ generator_is held 1 60
    ∷ answer (Note 10 36 0 Stolen)
    ∷ answer (NoNote refusal.NothingToSteal 1 60)
    -- P8: key 46 is idle, and its generator has 42
    ∷ generator_is held 10 46
    ∷ answer (Note 10 42 0 Idle)
    -- P9: 32 bytes of pairs, and 33
    ∷ answer Done
    ∷ answer (Number refusal.MipTooLong)
    ∷ []
