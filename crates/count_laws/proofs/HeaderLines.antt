-- The lines on headers, parted by the sections that these name.
use Rattle.std.proofs.Common.{◌≡◌, ◌+◌, ℕ, List, [], ◌∷◌, ◌++◌, refl, sym, ap, ap₂, ◌∙◌, append-nil, sum_by, if◌then◌else◌}
use Rattle.std.specs.List.{flat_map}
use Rattle.design_model.specs.declared.mode.Section.{Section}
use Rattle.design_model.specs.declared.mode.Section.TheVariants.{Components}
use Rattle.design_model.specs.EnumWords.{section_word}
use Rattle.def_grammar.specs.Numbers.{int_of}
use Rattle.def_grammar.specs.Records.{Record, top, in_properties, end_section, entry}
use Rattle.def_grammar.specs.Top.{header, plain}
use Rattle.design_rules.specs.CountLines.{count_lines, count_of, entries}
use Rattle.edit_rules.specs.SectionEdits.{is_section}
use Rattle.line_laws.specs.Lines.{times, SameLines}
use Rattle.line_laws.proofs.PairSums.{sum_by-same, sum_by-plus, times-append, times-flat_map}
use Rattle.count_laws.specs.Counts.{all_sections}

-- these lines, where a header names the section
abbrev if_of : Section → List (List ℕ) → Section → List (List ℕ)
if_of t lines s = if is_section s t then lines else []

-- the lines on the headers of one section
abbrev pub own_lines : List Record → Section → List (List ℕ)
own_lines [] s = []
own_lines (top (header t n) ∷ rs) s = if_of t (count_of t (int_of n) (entries rs)) s ++ own_lines rs s
own_lines (_ ∷ rs) s = own_lines rs s

-- a header names one section of all
one_of_all : (t : Section) (lines : List (List ℕ)) → flat_map (if_of t lines) all_sections ≡ lines
unfolding section_word
one_of_all Components lines = append-nil lines
one_of_all _ lines = append-nil lines

parted : (q : List ℕ) (rs : List Record) → sum_by (λ s. times q (own_lines rs s)) all_sections ≡ times q (count_lines rs)
parted q [] = refl
parted q (top (header t n) ∷ rs) =
    let here = count_of t (int_of n) (entries rs) in
    sum_by-same (λ s. times q (if_of t here s ++ own_lines rs s)) (λ s. times q (if_of t here s) + times q (own_lines rs s)) (λ s. times-append q (if_of t here s) (own_lines rs s)) all_sections
    ∙ (sum_by-plus (λ s. times q (if_of t here s)) (λ s. times q (own_lines rs s)) all_sections
    ∙ (ap₂ (λ (k l : ℕ). k + l) (sym (times-flat_map q (if_of t here) all_sections) ∙ ap (times q) (one_of_all t here)) (parted q rs)
    ∙ sym (times-append q here (count_lines rs))))
parted q (top (plain p) ∷ rs) = parted q rs
parted q (in_properties p ∷ rs) = parted q rs
parted q (end_section s ∷ rs) = parted q rs
parted q (entry e ∷ rs) = parted q rs

pub lines_are_parted : (rs : List Record) (lines : Section → List (List ℕ)) → ((s : Section) → own_lines rs s ≡ lines s) → SameLines (count_lines rs) (flat_map lines all_sections)
lines_are_parted rs lines same = record {
  often = λ q.
      sym (parted q rs)
      ∙ (sum_by-same (λ s. times q (own_lines rs s)) (λ s. times q (lines s)) (λ s. ap (times q) (same s)) all_sections
      ∙ sym (times-flat_map q lines all_sections));
}
