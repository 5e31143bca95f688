-- 323 bytes are room for what is answered: the page has so many, and the line of a number at most 21.
-- Assumes nothing.
use Prim.Native.Nat.{ℕ, ◌≤◌}
use mathlib.Core.Path.{◌≡◌}
use mathlib.Core.List.{List, [], ◌∷◌}
use native.Mathlib.Omega.{arith}
use borrow.Author.Tests.{le-ltb}
use lib.ListN.{length, take, drop, length-append}
use lib.Seq.{take_at}
use Rattle.text.specs.Text.{Put, decimal}
use Rattle.text.proofs.Digits.{digits_within}
use Rattle.text.proofs.Joined.{whole}
use Rattle.device.specs.declared.Device.{Device}
use Rattle.service.specs.Page.{page_text, page_after}
use Rattle.service.proofs.Lines.{page-length}
use Rattle.page_lines.specs.PageLines.{number_line, page_room}

number_length : (n : ℕ) → length (number_line n) ≤ 21
unfolding number_line
number_length n =
    let d = digits_within 20 n in
    rw (length-append (decimal n) (10 ∷ [])) (omega arith)

pub line-whole : (n used : ℕ) {p q : List ℕ}
    → Put p 0 (number_line n) used q → 323 ≤ length p → take used q ≡ number_line n
line-whole n used {p} {q} put h =
    let l = number_length n in
    let w = whole {p = p} {q = q} {t = number_line n} {at = 0} {k = used} (omega arith) put in
    let k : length (number_line n) ≡ used = omega (arith, w.0) in
    rw w.1 (take_at (number_line n) _ used k)

-- ---- the page

-- it stands there whole
pub page-whole : (d : Device) (p q : List ℕ) (used : ℕ) → used ≡ page_room p
    → q ≡ page_after d p → 323 ≤ length p → take used q ≡ page_text d
unfolding page_after page_room
page-whole d p q used u e h = rw (u, e, le-ltb (length p) 323 h) (take_at (page_text d) (drop 323 p) 323 (page-length d))
