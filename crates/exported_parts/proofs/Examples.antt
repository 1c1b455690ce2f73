-- Worked examples, computed: the numbers handed back that are no refusals of document 01.
use mathlib.Core.Path.{◌≡◌, refl}
use mathlib.Core.List.{[], ◌∷◌}
use lib.ListN.{replicate}
use Rattle.base.specs.Answer.{figures}
use Rattle.marshalling.specs.Handed.{length_is, sized, number_handed}
use Rattle.exported_parts.specs.Lines.{letter_named, write_answer_by}

wrong_length : number_handed (sized (length_is 4 (0 ∷ [])) (figures [])) ≡ 1_000
wrong_length = refl

-- "Q"
no_letter : number_handed (write_answer_by (letter_named 81) (replicate 14 0) 100) ≡ 1_001
unfolding letter_named
no_letter = refl
