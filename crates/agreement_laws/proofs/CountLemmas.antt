-- Lines on the numbers in headers by the outline of a design.
use Rattle.std.proofs.Common.{◌≡◌, ◌+◌, ℕ, List, [], ◌∷◌, ◌++◌, map, refl, sym, ap, ap₂, ◌∙◌}
use Rattle.def_grammar.specs.Numbers.{int_of}
use Rattle.def_grammar.specs.Records.{Record, end_section, entry, in_properties, top}
use Rattle.def_grammar.specs.Top.{die_area, end_design, extension, gcell_grid, header, kept, properties, row, tracks, units}
use Rattle.design_rules.specs.CountLines.{count_lines, count_of, entries}
use Rattle.agreement_laws.specs.Agreement.{Outline, a_header, an_end, an_entry, nothing, outline_of}

abbrev entries_in : List Outline → ℕ
entries_in [] = 0
entries_in (a_header s n ∷ os) = entries_in os
entries_in (an_entry ∷ os) = 1 + entries_in os
entries_in (an_end ∷ os) = 0
entries_in (nothing ∷ os) = entries_in os

abbrev counts_in : List Outline → List (List ℕ)
counts_in [] = []
counts_in (a_header s n ∷ os) = count_of s (int_of n) (entries_in os) ++ counts_in os
counts_in (an_entry ∷ os) = counts_in os
counts_in (an_end ∷ os) = counts_in os
counts_in (nothing ∷ os) = counts_in os

entries_are : (rs : List Record) → entries rs ≡ entries_in (map outline_of rs)
entries_are [] = refl
entries_are (end_section s ∷ rs) = refl
entries_are (entry e ∷ rs) = ap (λ n. 1 + n) (entries_are rs)
entries_are (in_properties p ∷ rs) = entries_are rs
entries_are (top (header s n) ∷ rs) = entries_are rs
entries_are (top (row r) ∷ rs) = entries_are rs
entries_are (top (die_area d) ∷ rs) = entries_are rs
entries_are (top (tracks t) ∷ rs) = entries_are rs
entries_are (top (gcell_grid g) ∷ rs) = entries_are rs
entries_are (top (units n) ∷ rs) = entries_are rs
entries_are (top end_design ∷ rs) = entries_are rs
entries_are (top properties ∷ rs) = entries_are rs
entries_are (top (extension ws) ∷ rs) = entries_are rs
entries_are (top (kept w ws) ∷ rs) = entries_are rs

counts_are : (rs : List Record) → count_lines rs ≡ counts_in (map outline_of rs)
counts_are [] = refl
counts_are (end_section s ∷ rs) = counts_are rs
counts_are (entry e ∷ rs) = counts_are rs
counts_are (in_properties p ∷ rs) = counts_are rs
counts_are (top (header s n) ∷ rs) = ap₂ (λ (k : ℕ) (l : List (List ℕ)). count_of s (int_of n) k ++ l) (entries_are rs) (counts_are rs)
counts_are (top (row r) ∷ rs) = counts_are rs
counts_are (top (die_area d) ∷ rs) = counts_are rs
counts_are (top (tracks t) ∷ rs) = counts_are rs
counts_are (top (gcell_grid g) ∷ rs) = counts_are rs
counts_are (top (units n) ∷ rs) = counts_are rs
counts_are (top end_design ∷ rs) = counts_are rs
counts_are (top properties ∷ rs) = counts_are rs
counts_are (top (extension ws) ∷ rs) = counts_are rs
counts_are (top (kept w ws) ∷ rs) = counts_are rs

pub same_counts : (design other : List Record) → map outline_of design ≡ map outline_of other → count_lines design ≡ count_lines other
same_counts design other same = counts_are design ∙ ap counts_in same ∙ sym (counts_are other)
