-- How many tokens are left before the number of lines of a grid.
use Rattle.std.proofs.Common.{◌≡◌, ℕ, ◌+◌, List, length, ap, ◌∙◌, refl, arith}
use Rattle.std.specs.Prelude.{Some, codes}
use Rattle.form_meanings.specs.Words.{Rest, key}
use Rattle.statement_model.specs.Form.{number, read, ◌▸◌, ◌⨟◌}
use Rattle.def_grammar.specs.Limits.{is_lines, is_size}

pub left_of_count : (r r1 r2 r3 : Rest) (count step : List ℕ) → read (number is_lines) r ≡ Some (count, r1) → key (codes "STEP") r1 ≡ Some r2 → read (number is_size) r2 ≡ Some (step, r3) → length r.words ≡ 3 + length r3.words
left_of_count r r1 r2 r3 count step e1 e2 e3 =
    let e : read (number is_lines ⨟ codes "STEP" ▸ number is_size) r ≡ Some ((count, step), r3) = rw (e1, e2, e3) refl in
    ap length ((number is_lines ⨟ codes "STEP" ▸ number is_size).exact.shows r ((count, step), r3) e).words ∙ omega arith
