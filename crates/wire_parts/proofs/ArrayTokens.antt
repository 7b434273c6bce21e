-- The number of an array of vias that is invalid where there are too many.
use Rattle.std.proofs.Common.{◌≡◌, ◌+◌, ℕ, List, length, arith, refl, Some}
use Rattle.form_meanings.specs.Words.{Rest, noted}
use Rattle.statement_model.specs.Form.{read}
use Rattle.def_grammar.specs.Limits.{is_array}
use Rattle.def_grammar.specs.Wiring.{array_size}
use Rattle.wire_parts.specs.PathViews.{array_counts}

three_tokens : (r : Rest) (p : (List ℕ × List ℕ) × Rest) → read array_counts r ≡ Some p → length r.words ≡ 3 + length p.1.words
three_tokens r p e = rw (array_counts.exact.shows r p e).words (omega arith)

-- what is left before it are the tokens of the array's numbers and those after them
pub size_reads : (r : Rest) (p : (List ℕ × List ℕ) × Rest) → read array_counts r ≡ Some p → read array_size r ≡ Some (p.0, noted (is_array p.0.0 p.0.1) (length r.words) p.1)
unfolding array_size
size_reads r p e = rw (e, three_tokens r p e) refl
