-- R10.10: the order of age in the record is that of the last note answers of the list.
use Rattle.std.specs.Prelude.{ℕ, ◌≡◌, List, [], ◌∷◌, ◌++◌}
use Rattle.loops.specs.Passes.{filter_by}
use Rattle.ages.specs.Ages.{oldest_first, other_than}
use Rattle.generators.specs.Generators.{at, is_sounding}
use Rattle.playing.specs.declared.Answer.{Answer}
use Rattle.note_book.specs.Book.{if_note}
use Rattle.note_book.specs.Claim.{System, after}

-- one answer more: its generator goes last
abbrev pub named : List ℕ → Answer → List ℕ
named l a = if_note a (λ c k g w. filter_by (other_than g) l ++ (g ∷ [])) l

module _ (S : System) where
  -- the generators that note answers name, each at its last one, the earliest first; l is what came before
  abbrev pub by_answers : List ℕ → S.State → List S.Event → List ℕ
  by_answers l s [] = l
  by_answers l s (e ∷ es) = by_answers (named l (S.answer s e)) (S.next s e) es

  -- R10.10: of two sounding generators the older in the record is the one whose last note answer stands earlier
  abbrev pub AgeByAnswers : S.State → List S.Event → Type 0
  AgeByAnswers s l =
      oldest_first (S.instrument (after S s l)).generators.ages
      ≡ filter_by (λ g. is_sounding (at (S.instrument (after S s l)).generators g)) (by_answers [] s l)
