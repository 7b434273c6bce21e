-- The lines on a header and on what comes after it.
use Rattle.std.proofs.Common.{◌≡◌, ℕ, ℤ, ◌+◌, ◌<◌, List, ◌∷◌, ◌++◌, length, get_or, drop, refl, sym, ap, ◌∙◌, append_assoc, add-one, drop-cons}
use Rattle.design_model.specs.declared.mode.Section.{Section}
use Rattle.def_grammar.specs.Numbers.{int_of}
use Rattle.design_rules.specs.CountLines.{entries, count_of, count_lines}
use Rattle.lefdef_tokens.specs.declared.token.Token.{Token}
use Rattle.def_reader.specs.declared.statement.Statement.{Statement}
use Rattle.def_reader.specs.declared.statement.Statement.TheVariants.{Header}
use Rattle.def_reader.specs.StatementViews.{record_view, records_view}

-- what is left of some statements from one of them on
left_from : (xs : List Statement) (i : ℕ) (x : Statement) → i < length xs → x ≡ get_or xs i x → records_view (drop i xs) ≡ record_view x ∷ records_view (drop (i + 1) xs)
left_from xs i x below is = rw (add-one, drop-cons xs i x, ← is) refl

pub header_noted : (xs : List Statement) (i found : ℕ) (said : ℤ) (x : Statement) (s : Section) (n : Token) (old new all : List (List ℕ))
    → i < length xs → x ≡ get_or xs i x → x ≡ Header s n → said ≡ int_of n.bytes.now → found ≡ entries (records_view (drop (i + 1) xs))
    → new ≡ old ++ count_of s said found
    → old ++ count_lines (records_view (drop i xs)) ≡ all
    → new ++ count_lines (records_view (drop (i + 1) xs)) ≡ all
header_noted xs i found said x s n old new all below is header says counted noted so_far =
    rw (noted, says, counted, append_assoc)
    (ap (λ rs. old ++ count_lines rs) (sym (left_from xs i x below is ∙ ap (λ st. record_view st ∷ records_view (drop (i + 1) xs)) header)) ∙ so_far)
