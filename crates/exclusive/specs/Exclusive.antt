-- What an ended SysEx does to the sound module, and what it answers (R2.7, R2.8, section 3 of docs/RULES.md).
use Rattle.std.specs.Prelude.{ℕ, List, drop, Result, Ok, Err}
use Rattle.refusals.specs.declared.Refusal.{Refusal}
use Rattle.table.specs.declared.Table.{Table}
use Rattle.sysex.specs.declared.Kind.{Kind}
use Rattle.sysex.specs.declared.Kind.TheVariants.{Mip, SystemOn, Other}
use Rattle.sysex.specs.SysEx.{kind_of}
use Rattle.mip.specs.Mip.{judged}
use Rattle.instrument.specs.declared.Instrument.{Instrument}
use Rattle.instrument.specs.Instrument.{fresh, with_table, with_generators}
use Rattle.masking.specs.Masking.{masked}
use Rattle.playing.specs.declared.Answer.TheVariants as answer
use Rattle.playing.specs.declared.Reply.{Reply}
use Rattle.playing.specs.Playing.{replied}

-- R2.7, R2.8: the new table, and what it does to the notes of newly masked channels; R2.9: all else stays
unfoldable pub new_table : Instrument → Table → Instrument
new_table i t = with_table (with_generators i (masked i.polyphony i.table t i.generators)) t

abbrev pub judged_reply : Instrument → Result Table Refusal → Reply
judged_reply i (Ok t) = replied answer.Done (new_table i t)
judged_reply i (Err r) = replied (answer.Number r) i

-- R3.3: a MIP message for us by its data bytes, of which the first four are its head; refused, it leaves the table
unfoldable pub mip_taken : Instrument → List ℕ → Reply
mip_taken i l = judged_reply i (judged (drop 4 l))

-- an ended SysEx; R3.6: GM System On gives a fresh record with the same P and own ID; R3.7: any other answers none
abbrev pub kind_reply : Instrument → List ℕ → Kind → Reply
kind_reply i l Mip = mip_taken i l
kind_reply i l SystemOn = replied answer.Done (fresh i.polyphony i.id)
kind_reply i l Other = replied answer.Nothing i

unfoldable pub exclusive : Instrument → List ℕ → Reply
exclusive i l = kind_reply i l (kind_of i.id l)
