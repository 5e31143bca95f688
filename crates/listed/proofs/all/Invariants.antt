-- `listed::all`: at turn i the first i bytes are listed.
-- Assumes nothing.
use Rattle.std.proofs.Common.{◌≡◌, length, take}
use Rattle.text.specs.Text.{Put}
use Rattle.listed.specs.Listing.{listed_by, after_all}
use Rattle.listed.proofs.all.Given as goal

abbrev pub invariant-loop-b : goal.invariant-loop-b
invariant-loop-b l =
    (length l.page ≡ length l.initial.page) × (l.lister ≡ after_all l.fn.l (take l.b-index l.bytes))
    × Put l.initial.page 0 (listed_by l.fn.l (take l.b-index l.bytes)) l.used l.page
