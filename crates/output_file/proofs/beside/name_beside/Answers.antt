use Rattle.std.proofs.Common.{arith, rules, ◌≡◌, ◌++◌, ◌∷◌, ◌+◌, ◌<◌, List, ℕ, Some, codes, decimal, drop, length, length-append, sym, ap, subst, ◌∙◌, take, take-append-drop}
use Rattle.std.specs.Str.Pattern.{RFindsChar}
use Rattle.std.proofs.lemmas.List.{drop_more}
use Rattle.std.proofs.lemmas.Fmt.{length-decimal-le}
use Rattle.std.proofs.lemmas.Str.{len_utf8_ascii}
use Rattle.std.proofs.lemmas.Str.Pattern.{NoCharPasses-char}
use Rattle.output_file.specs.Beside.{IsName}
use Rattle.output_file.proofs.beside.name_beside.Goals as goal

-- what comes before the last slash of a path, and after it
is_split : (path front back : List ℕ) (i j : ℕ) → RFindsChar 47 path (Some (i, j)) → front ≡ take i path → back ≡ drop j path → i < length path
    → IsName back × (path ≡ front ++ 47 ∷ back)
is_split path front back i j found before after within =
    let next : j ≡ i + 1 = omega (arith, found.1.ends, len_utf8_ascii 47 (omega arith)) in
    let name : IsName (drop j path) = λ k l e. NoCharPasses-char 47 (drop j path) k found.0 (omega arith) l e in
    let rest : drop i path ≡ 47 ∷ drop j path = drop_more path i 0 within ∙ ap (λ b. b ∷ drop (i + 1) path) (found.1.byte (omega arith)) ∙ ap (λ n. 47 ∷ drop n path) (sym next) in
    (subst IsName (sym after) name, rw (before, after) (sym (take-append-drop i path) ∙ ap (λ l. take i path ++ l) rest))

pub returns-in-Some-clause-short : goal.returns-in-Some-clause-short
returns-in-Some-clause-short c =
    omega (arith, length-append (decimal c.args.number) (codes ".new"), length-decimal-le 20 c.args.number (omega arith) (omega arith) c.ranges.number.fits)

pub returns-in-None-clause-short : goal.returns-in-None-clause-short
returns-in-None-clause-short c =
    omega (arith, length-append (decimal c.args.number) (codes ".new"), length-decimal-le 20 c.args.number (omega arith) (omega arith) c.ranges.number.fits)

pub returns-in-Some-clause-beside : goal.returns-in-Some-clause-beside
returns-in-Some-clause-beside c =
    let split = c.in-Some.ensures.cases in
    let within : split.0 < length c.args.path.now = omega (arith, split.2.1.ends, len_utf8_ascii 47 (omega arith), split.7) in
    let parts = is_split c.args.path.now c.in-Some.folder.now c.in-Some.field-0-1.now split.0 split.1 split.2 split.3 split.4 within in
    search rules

pub returns-in-None-clause-beside : goal.returns-in-None-clause-beside
returns-in-None-clause-beside c =
    let name : IsName c.args.path.now = λ k l e. NoCharPasses-char 47 c.args.path.now k c.in-None.ensures.cases (omega arith) l e in
    search rules
