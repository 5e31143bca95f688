-- `driver::hear` meets its contract: where a key sounds, what is heard is the note-on of that key.
-- Assumes nothing.
use Rattle.std.proofs.Common.{◌≡◌, ◌∙◌, sym, ℕ}
use Rattle.std.specs.Prelude.{Some}
use Rattle.splitter.specs.declared.Parser.{Parser}
use Rattle.splitter.specs.declared.Completed.{Completed}
use Rattle.splitter.specs.declared.Completed.TheVariants.{Nothing, Stray, Cut, Message, SysEx}
use Rattle.splitter.specs.Split as splitting
use Rattle.message.specs.declared.Message as messages
use Rattle.message.specs.declared.Message.TheVariants as message
use Rattle.message.specs.Message.{decode}
use Rattle.instrument.specs.declared.Instrument.{Instrument}
use Rattle.playing.specs.declared.Answer.{Answer}
use Rattle.playing.specs.Playing.{play_note_on, played}
use Rattle.device.specs.declared.Device.{Device}
use Rattle.device.specs.Device as definition
use Rattle.touched.specs.declared.Key.{Key}
use Rattle.touched.specs.Touched.{key_of, key_in}
use Rattle.driver.specs.Heard.{note_heard, heard_by}
use Rattle.driver.proofs.hear.Goals as goal

-- what a note-on is heard as
module _ (i : Instrument) (p : Parser) (y : Key) where
  played_key : (m : messages.Message) → key_in m ≡ Some y → played i m ≡ play_note_on i y.channel y.key
  unfolding played
  played_key (message.NoteOn c k) q = cc
  played_key (message.NoteOff c k) q = cc
  played_key (message.Control c m v) q = cc
  played_key (message.Program c m) q = cc
  played_key (message.Bend c msb lsb) q = cc
  played_key message.Other q = cc

  heard_key : (k : Completed) → key_of k ≡ Some y → definition.heard i p k ≡ play_note_on i y.channel y.key
  unfolding definition.heard
  heard_key Nothing q = cc
  heard_key Stray q = cc
  heard_key Cut q = cc
  heard_key (Message s a b) q = played_key (decode s a b) q
  heard_key SysEx q = cc

note_way : (h : Device) (n : ℕ) (k : Completed) (y : Key) (p : Parser) (a : Answer) (d : Device)
    → p ≡ (splitting.split h.parser n).parser → key_of k ≡ Some y
    → (a ≡ (note_heard (record { parser = p; instrument = h.instrument }) y.channel y.key).answer)
    × (d ≡ (note_heard (record { parser = p; instrument = h.instrument }) y.channel y.key).device)
    → (a ≡ (heard_by h n k).answer) × (d ≡ (heard_by h n k).device)
note_way h n k y p a d is_parser q s = rw (heard_key h.instrument h.parser y k q, ← is_parser) s

pub returns-in-Some : goal.returns-in-Some
returns-in-Some c =
    note_way c.args.d.now c.args.b c.args.c c.in-Some.field-0 c.after-d.result c.note.result c.note.new.d
    c.after-d.ensures (sym c.key_of.ensures ∙ c.in-Some.is) c.note.ensures
