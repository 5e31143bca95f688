-- Which SysEx are for this device (R3.1, R3.2, R3.6, R3.7). A SysEx is given as its data bytes, between F0 and F7.
use Rattle.std.specs.Prelude.{ℕ, Bool, ◌&&◌, ◌||◌, List, length, get_or, eqb, leb, if◌then◌else◌}
use Rattle.sysex.specs.declared.Kind.{Kind}
use Rattle.sysex.specs.declared.Kind.TheVariants.{Mip, SystemOn, Other}

-- R3.2: the device byte is 7F or the own ID
abbrev pub is_for_us : ℕ → ℕ → Bool
is_for_us id d = eqb d 0x7F || eqb d id

abbrev pub starts_with : ℕ → ℕ → ℕ → ℕ → List ℕ → Bool
starts_with id a b c l =
    eqb (get_or l 0 0) a && (is_for_us id (get_or l 1 0) && (eqb (get_or l 2 0) b && eqb (get_or l 3 0) c))

-- R3.1: the head of a MIP message
unfoldable pub is_mip : ℕ → List ℕ → Bool
is_mip id l = leb 4 (length l) && starts_with id 0x7F 0x0B 0x01 l

-- R3.6: GM System On, to the byte
unfoldable pub is_system_on : ℕ → List ℕ → Bool
is_system_on id l = eqb (length l) 4 && starts_with id 0x7E 0x09 0x01 l

-- R3.7: any other
unfoldable pub kind_of : ℕ → List ℕ → Kind
kind_of id l = if is_mip id l then Mip else if is_system_on id l then SystemOn else Other
