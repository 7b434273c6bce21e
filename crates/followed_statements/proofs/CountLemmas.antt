-- The line on one section by what its header says.
use Rattle.std.proofs.Common.{◌≡◌, ℕ, List, ◌++◌, length, sym, ap, ◌∙◌, append-nil}
use Rattle.std.specs.Prelude.{Option, Some, None}
use Rattle.design_model.specs.declared.mode.Section.{Section}
use Rattle.def_grammar.specs.Numbers.{int_of}
use Rattle.def_grammar.specs.Records.{Record}
use Rattle.design_rules.specs.CountLines.{count_of}
use Rattle.edit_rules.specs.SectionEdits.{entries_in}
use Rattle.count_laws.specs.Counts.{header_lines, header_number, section_lines}
use Rattle.line_laws.specs.Lines.{SameLines, times}

pub with_number : (design : List Record) (s : Section) (old new : List (List ℕ)) (n : List ℕ) → Some n ≡ header_number s design → new ≡ old ++ count_of s (int_of n) (length (entries_in s design))
    → new ≡ old ++ section_lines design s
with_number design s old new n says is = is ∙ ap (λ (o : Option (List ℕ)). old ++ header_lines s (length (entries_in s design)) o) says

pub without_number : (design : List Record) (s : Section) (old : List (List ℕ)) → None ≡ header_number s design → old ≡ old ++ section_lines design s
without_number design s old says = sym (append-nil old) ∙ ap (λ (o : Option (List ℕ)). old ++ header_lines s (length (entries_in s design)) o) says

pub turned : (xs ys zs : List (List ℕ)) → zs ≡ ys → SameLines xs ys → SameLines zs xs
turned xs ys zs is same = record { often = λ q. ap (λ (l : List (List ℕ)). times q l) is ∙ sym (same.often q) }
