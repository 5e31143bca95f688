-- Why calls are refused, whatever they are given: for a reason of section 8 that has a name, never for `Other`, which
-- is there for an answer that is put into words or numbers. A driver that decides by the reason needs no case for it.
-- Assumes nothing.
use Rattle.std.specs.Prelude.{ℕ, ◌≡◌, Bool, List, Result, Ok, Err}
use Rattle.refusals.specs.declared.Refusal.{Refusal}
use Rattle.refusals.specs.declared.Refusal.TheVariants as refusal
use Rattle.splitter.specs.declared.Parser.{Parser}
use Rattle.splitter.specs.declared.Completed.{Completed}
use Rattle.message.specs.declared.Message.{Message}
use Rattle.table.specs.declared.Table.{Table}
use Rattle.mip.specs.Mip.{judged}
use Rattle.generators.specs.declared.Generators.{Generators}
use Rattle.allocation.specs.Allocation.{note_on}
use Rattle.instrument.specs.declared.Instrument.{Instrument}
use Rattle.playing.specs.declared.Answer.{Answer}
use Rattle.playing.specs.declared.Answer.TheVariants as answer
use Rattle.playing.specs.Playing.{played}
use Rattle.reports.specs.Reports.{reported}
use Rattle.exclusive.specs.Exclusive.{exclusive}
use Rattle.device.specs.declared.Device.{Device}
use Rattle.device.specs.Device.{started, heard}
use Rattle.events.specs.declared.Event.{Event}
use Rattle.events.specs.Events.{taken}
use Rattle.queries.specs.Queries.{generator_query, mask_query, share_query}
use Rattle.service.specs.Page.{page_answer}
use Rattle.pitch.specs.Pitch.{pitch_of}
use Rattle.gains.specs.declared.Gains.{Gains}
use Rattle.gains.specs.Gains.{ForItsReason}
use Rattle.song.specs.Song.{song_answer}

-- what is said of a reason, said of an answer that may hold one
abbrev pub InAnswer : (Refusal → Type 0) → Answer → Type 0
InAnswer P answer.Nothing = Unit {0}
InAnswer P answer.Done = Unit {0}
InAnswer P (answer.Note c k g w) = Unit {0}
InAnswer P (answer.NoNote r c k) = P r
InAnswer P (answer.Number r) = P r

abbrev pub InResult : {A : Type 0} → (Refusal → Type 0) → Result A Refusal → Type 0
InResult P (Ok a) = Unit {0}
InResult P (Err r) = P r

-- it holds of R8.3 to R8.11, for which bytes are refused
pub record OfBytes (P : Refusal → Type 0) : Type 0 where
  pub stray : P refusal.Stray
  pub cut : P refusal.Cut
  pub long : P refusal.MipTooLong
  pub odd : P refusal.MipOddLength
  pub no_channel : P refusal.MipNoChannel
  pub twice : P refusal.MipListedTwice
  pub falling : P refusal.MipFallingValue
  pub masked : P refusal.Masked
  pub nothing : P refusal.NothingToSteal

-- a reason that has a name
abbrev pub IsNamed : Refusal → Type 0
IsNamed r = (n : ℕ) → r ≡ refusal.Other n → ⊥

-- the claim, for each call that can be refused and all that it may be given
pub record AlwaysNamed : Type 0 where
  pub start : (p id : ℕ) → InAnswer IsNamed (started p id).answer
  pub event : (d : Device) (e : Event) → InAnswer IsNamed (taken d e).answer
  pub completed : (i : Instrument) (p : Parser) (c : Completed) → InAnswer IsNamed (heard i p c).answer
  pub message : (i : Instrument) (m : Message) → InAnswer IsNamed (played i m).answer
  pub note : (s : Generators) (t : Table) (p : ℕ) (rhythm : Bool) (c k : ℕ)
      → InResult IsNamed (note_on s t p rhythm c k).taken
  pub sysex : (i : Instrument) (l : List ℕ) → InAnswer IsNamed (exclusive i l).answer
  pub table : (l : List ℕ) → InResult IsNamed (judged l)
  pub report : (i : Instrument) (g : ℕ) → InAnswer IsNamed (reported i g).answer
  pub generator : (d : Device) (g : ℕ) → InResult IsNamed (generator_query d g)
  pub mask : (d : Device) (c : ℕ) → InResult IsNamed (mask_query d c)
  pub share : (d : Device) (c : ℕ) → InResult IsNamed (share_query d c)
  pub page : (buffer : List ℕ) → InResult IsNamed (page_answer buffer)
  pub pitch : (k s b : ℕ) → InResult IsNamed (pitch_of k s b)
  pub gains : (a : Result Gains Refusal) → ForItsReason a → InResult IsNamed a
  pub song : (p n : ℕ) (buffer : List ℕ) → InResult IsNamed (song_answer p n buffer)
