-- `driver::byte` meets its contract: a byte that is quiet changes the parser alone, as the call by value does.
-- Assumes nothing.
use Rattle.std.proofs.Common.{◌≡◌, ◌∙◌, refl, sym, true, ℕ}
use Rattle.splitter.specs.declared.Parser.{Parser}
use Rattle.splitter.specs.declared.Completed.{Completed}
use Rattle.splitter.specs.declared.Completed.TheVariants.{Nothing, Stray, Cut, Message, SysEx}
use Rattle.splitter.specs.Split as splitting
use Rattle.instrument.specs.declared.Instrument.{Instrument}
use Rattle.playing.specs.declared.Answer.{Answer}
use Rattle.playing.specs.Playing.{replied}
use Rattle.device.specs.declared.Device.{Device}
use Rattle.device.specs.Device as definition
use Rattle.events.specs.declared.Event.TheVariants.{Byte}
use Rattle.events.specs.Events.{taken}
use Rattle.touched.specs.Touched.{is_quiet, quiet_answer}
use Rattle.driver.proofs.byte.Goals as goal

heard_quietly : (i : Instrument) (p : Parser) (k : Completed)
    → is_quiet k ≡ true → definition.heard i p k ≡ replied (quiet_answer k) i
unfolding definition.heard
heard_quietly i p Nothing q = refl
heard_quietly i p Stray q = refl
heard_quietly i p Cut q = refl
heard_quietly i p (Message s a b) q = cc
heard_quietly i p SysEx q = cc

quiet_way : (h : Device) (n : ℕ) (k : Completed) (p : Parser) (a : Answer)
    → k ≡ (splitting.split h.parser n).completed → p ≡ (splitting.split h.parser n).parser
    → is_quiet k ≡ true → a ≡ quiet_answer k
    → (a ≡ (taken h (Byte n)).answer) × (record { parser = p; instrument = h.instrument } ≡ (taken h (Byte n)).device)
unfolding taken definition.byte_taken
quiet_way h n k p a is_completed is_parser q e =
    let r = sym (heard_quietly h.instrument h.parser k q) in
    (simp (e, ← is_completed, ← r), simp (is_parser, ← is_completed, ← r))

pub returns-then-is_quiet : goal.returns-then-is_quiet
returns-then-is_quiet c =
    quiet_way c.args.d.now c.args.b c.completes-c.result c.after-d.result c.quiet_answer.result c.completes-c.ensures
    c.after-d.ensures (sym c.is_quiet.ensures ∙ c.if-is_quiet.true) c.quiet_answer.ensures
