-- The answers in plain numbers, as C has them (section 18 of docs/RULES.md): what it is (0 none, 1 done, 2 a note, 3
-- a number), the number, 0 where it has none, and the values that the answer carries. A field without meaning is 0.
use Rattle.std.specs.Prelude.{ℕ, ◌≡◌, Bool, Result, Ok, Err}
use Rattle.refusals.specs.declared.Refusal.{Refusal}
use Rattle.refusals.specs.Refusals as refusals
use Rattle.loops.specs.Cases.{bit, or_zero}
use Rattle.allocation.specs.declared.Was.{Was}
use Rattle.allocation.specs.declared.Was.TheVariants.{Idle, Release, Stolen}
use Rattle.playing.specs.declared.Answer.{Answer}
use Rattle.playing.specs.declared.Answer.TheVariants.{Nothing, Done, Note, NoNote, Number}
use Rattle.playing.specs.Playing.{number_of}
use Rattle.queries.specs.declared.GeneratorState.{GeneratorState}
use Rattle.pitch.specs.declared.Pitch.{Pitch}
use Rattle.pitch.specs.Pitch.{pitch_in, pitch_number}
use Rattle.channels.specs.declared.Channel.{Channel}
use Rattle.gains.specs.Gains.{is_out, number_for, Gives}
use Rattle.numbers.specs.declared.AnswerNumbers.{AnswerNumbers}
use Rattle.numbers.specs.declared.GeneratorNumbers.{GeneratorNumbers}
use Rattle.numbers.specs.declared.MaskNumbers.{MaskNumbers}
use Rattle.numbers.specs.declared.ShareNumbers.{ShareNumbers}
use Rattle.numbers.specs.declared.PitchNumbers.{PitchNumbers}
use Rattle.song.specs.Song.{thefts_in, song_number}
use Rattle.numbers.specs.declared.GainNumbers.{GainNumbers}
use Rattle.numbers.specs.declared.SongNumbers.{SongNumbers}

-- R4.11, R18.1: what the generator was
abbrev pub was_number : Was → ℕ
was_number Idle = 0
was_number Release = 1
was_number Stolen = 2

-- R18.1: an answer to an event; numbers 10 and 11 have channel and key
abbrev pub numbers_of : Answer → AnswerNumbers
numbers_of Nothing = record { what = 0; number = 0; channel = 0; key = 0; generator = 0; was = 0 }
numbers_of Done = record { what = 1; number = 0; channel = 0; key = 0; generator = 0; was = 0 }
numbers_of (Note c k g w) = record { what = 2; number = 0; channel = c; key = k; generator = g; was = was_number w }
numbers_of (NoNote r c k) =
    record { what = 3; number = or_zero (number_of (NoNote r c k)); channel = c; key = k; generator = 0; was = 0 }
numbers_of (Number r) =
    record { what = 3; number = or_zero (number_of (Number r)); channel = 0; key = 0; generator = 0; was = 0 }

-- R18.2, R7.3: the answers to queries; a refused one gives its number alone
abbrev pub generator_numbers : Result GeneratorState Refusal → GeneratorNumbers
generator_numbers (Ok s) = record { number = 0; state = s.state; channel = s.channel; key = s.key }
generator_numbers (Err r) = record { number = refusals.number r; state = 0; channel = 0; key = 0 }

abbrev pub mask_numbers : Result Bool Refusal → MaskNumbers
mask_numbers (Ok masked) = record { number = 0; masked = bit masked }
mask_numbers (Err r) = record { number = refusals.number r; masked = 0 }

abbrev pub share_numbers : Result ℕ Refusal → ShareNumbers
share_numbers (Ok n) = record { number = 0; share = n }
share_numbers (Err r) = record { number = refusals.number r; share = 0 }

-- R18.6: 1 for a rhythm channel, 0 for another
abbrev pub rhythm_number : Bool → ℕ
rhythm_number rhythm = bit rhythm

-- R18.4: a pitch or, beside number 21, octave 0 and 65536
abbrev pub pitch_numbers : Result Pitch Refusal → PitchNumbers
pitch_numbers a = record { entry = (pitch_in a).entry; octave = (pitch_in a).octave; number = or_zero (pitch_number a) }

-- R18.4: the gains of a call or, beside number 24, 0 and 0: what `gains.Answered` says of the answer, said of the plain
-- numbers
abbrev pub GainsTold : ℕ → ℕ → ℕ → GainNumbers → Type 0
GainsTold e v p r =
    (r.number ≡ or_zero (number_for e v p)) × Gives (is_out e v p) e v p (record { left = r.left; right = r.right })

abbrev pub GainsToldOf : Channel → GainNumbers → Type 0
GainsToldOf c r = GainsTold c.expression c.volume c.pan r

-- R18.4: the thefts of a song or, beside number 1 or 25, 0
abbrev pub song_numbers : Result ℕ Refusal → SongNumbers
song_numbers a = record { thefts = thefts_in a; number = or_zero (song_number a) }
