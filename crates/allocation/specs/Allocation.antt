-- A note-on with a velocity above 0: steps 1 to 5, and the assignment.
use Rattle.std.specs.Prelude.{ℕ, Bool, true, false, if◌then◌else◌, Option, Some, None, Result, Ok, Err}
use Rattle.table.specs.declared.Table.{Table}
use Rattle.shares.specs.Shares.{share_of, is_masked}
use Rattle.generators.specs.declared.Generators.{Generators}
use Rattle.generators.specs.Generators.{assigned}
use Rattle.refusals.specs.declared.Refusal.{Refusal}
use Rattle.refusals.specs.declared.Refusal.TheVariants as refusal
use Rattle.releases.specs.declared.Change.TheVariants.{ReleaseNote}
use Rattle.releases.specs.Releases.{changed}
use Rattle.silence.specs.declared.Leaving.TheVariants.{Group}
use Rattle.silence.specs.Silence.{silenced}
use Rattle.candidates.specs.declared.Want.TheVariants.{Releasing}
use Rattle.candidates.specs.Candidates.{lowest_idle, oldest}
use Rattle.stealing.specs.Stealing.{victim}
use Rattle.allocation.specs.declared.Was.{Was}
use Rattle.allocation.specs.declared.Was.TheVariants.{Idle, Release, Stolen}
use Rattle.allocation.specs.declared.Taken.{Taken}
use Rattle.allocation.specs.declared.Allocated.{Allocated}

-- R5.2, R5.3: steps 2 and 3, what the new note ends
unfoldable pub cleared : Bool → ℕ → ℕ → Generators → Generators
cleared rhythm c k s =
    if rhythm then silenced (Group c k) (changed (ReleaseNote c k) s) else changed (ReleaseNote c k) s

-- R4.11: of what a generator was, a theft
abbrev pub is_stolen : Was → Bool
is_stolen Idle = false
is_stolen Release = false
is_stolen Stolen = true

-- a generator that was found is taken, with what it was; where none was found, the next decides
abbrev pub or_else : Option ℕ → Was → Result Taken Refusal → Result Taken Refusal
or_else (Some g) w t = Ok (record { generator = g; was = w })
or_else None w t = t

-- R5.5, R5.6: step 4, the lowest idle one, else the oldest releasing one; R5.9: else step 5 steals; R5.10, R8.11:
-- else nothing is to be stolen
unfoldable pub choice : Generators → Table → ℕ → ℕ → Result Taken Refusal
choice s t p c =
    or_else (lowest_idle s p) Idle
    (or_else (oldest Releasing s) Release
    (or_else (victim s t p c) Stolen
    (Err refusal.NothingToSteal)))

-- R5.11: the note is held and the newest; R5.10: a refused note-on leaves everything as it was
abbrev pub allocated : Generators → Generators → ℕ → ℕ → Result Taken Refusal → Allocated
allocated s r c k (Ok t) = record { taken = Ok t; generators = assigned t.generator c k r }
allocated s r c k (Err e) = record { taken = Err e; generators = s }

-- R5.1, R8.10: step 1, a masked channel; then steps 2 to 5
unfoldable pub note_on : Generators → Table → ℕ → Bool → ℕ → ℕ → Allocated
note_on s t p rhythm c k =
    if is_masked (share_of t p c)
    then record { taken = Err refusal.Masked; generators = s }
    else allocated s (cleared rhythm c k s) c k (choice (cleared rhythm c k s) t p c)
