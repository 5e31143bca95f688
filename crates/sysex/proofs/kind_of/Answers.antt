-- `sysex::kind_of` meets its contract: what the code tests is what the definition tests of the data bytes.
-- Assumes nothing.
use mathlib.Core.Path.{◌∙◌}
use Rattle.splitter.proofs.Sizes.{bytes_37}
use Rattle.sysex.specs.SysEx.{kind_of}
use Rattle.sysex.proofs.Head.{mip-head, system_on_head}
use Rattle.sysex.proofs.kind_of.Goals as goal

pub returns-then-n-starts_with : goal.returns-then-n-starts_with
unfolding kind_of
returns-then-n-starts_with c =
    let size = bytes_37 c.args.parser c.well_formed.0 in
    simp (mip-head c.args.id c.args.parser.count c.args.parser.bytes size
    ∙ (rw c.starts_with.ensures at c.if-n-starts_with.true))

pub returns-then-n-starts_with-2 : goal.returns-then-n-starts_with-2
unfolding kind_of
returns-then-n-starts_with-2 c =
    let size = bytes_37 c.args.parser c.well_formed.0 in
    simp (
      mip-head c.args.id c.args.parser.count c.args.parser.bytes size
          ∙ (rw c.starts_with.ensures at c.if-n-starts_with.false),
      system_on_head c.args.id c.args.parser.count c.args.parser.bytes size
          ∙ (rw c.starts_with-2.ensures at c.if-n-starts_with-2.true),
    )

pub returns : goal.returns
unfolding kind_of
returns c =
    let size = bytes_37 c.args.parser c.well_formed.0 in
    simp (
      mip-head c.args.id c.args.parser.count c.args.parser.bytes size
          ∙ (rw c.starts_with.ensures at c.if-n-starts_with.false),
      system_on_head c.args.id c.args.parser.count c.args.parser.bytes size
          ∙ (rw c.starts_with-2.ensures at c.if-n-starts_with-2.false),
    )
