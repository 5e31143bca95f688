-- The number of a reason for which a call is refused (section 8 of docs/RULES.md, R8.n for number n).
use Rattle.std.specs.Prelude.{ℕ}
use Rattle.refusals.specs.declared.Refusal.{Refusal}
use Rattle.refusals.specs.declared.Refusal.TheVariants as refusal

abbrev pub number : Refusal → ℕ
number refusal.WrongPolyphony = 1
number refusal.WrongId = 2
number refusal.Stray = 3
number refusal.Cut = 4
number refusal.MipTooLong = 5
number refusal.MipOddLength = 6
number refusal.MipNoChannel = 7
number refusal.MipListedTwice = 8
number refusal.MipFallingValue = 9
number refusal.Masked = 10
number refusal.NothingToSteal = 11
number refusal.NoGenerator = 12
number refusal.IdleGenerator = 13
number refusal.NoChannel = 14
number refusal.WrongLine = 15
number refusal.WrongOrder = 16
number refusal.UnfitLog = 17
number refusal.ShortPage = 18
number refusal.PitchOutOfRange = 21
number refusal.GainsOutOfRange = 24
number refusal.SongTooLong = 25
number (refusal.Other n) = n
