-- Lines that are made by putting parts behind one another.
use Rattle.std.proofs.Common.{◌≡◌, ℕ, List, ◌++◌, Option, Some, None, Result, Ok, Err, ap, ◌∙◌, subst, arith, cond}
use Rattle.std.specs.Prelude.{IfOk, IfSome, MatchOption}
use Rattle.std.specs.Str.{bytes_eq}
use Rattle.std.proofs.lemmas.List.Sorted.{sum_by-IsPermutation}
use Rattle.design_model.specs.declared.diagnostic.DiagLine.{DiagLine}
use Rattle.design_model.specs.Order.{sorted_by_bytes, texts}
use Rattle.kept_lines.specs.Kept.{Kept}
use Rattle.line_laws.specs.SortingLaws.{SameLinesSortAlike, SortingIsByLines}
use Rattle.line_laws.specs.Lines.{SameLines, times}
use Rattle.line_laws.proofs.PairSums.{times-append}
use Rattle.def_grammar.specs.Records.{Record, read_def}
use Rattle.lef_grammar.specs.Library.{Library}
use Rattle.report_rules.specs.Diagnostics.{diagnostics}
use Rattle.edit_session.specs.Sessions.{AreDiagnostics}
use Rattle.edit_session.specs.Known.{AreDrawn, AreDrawnOf, AreKept}
use Rattle.edit_session.specs.declared.drawn_nets.DrawnNets.{DrawnNets}

abbrev Lines : Type 0
Lines = List (List ℕ)

-- the sorted lines have each line as often
pub sorted_same : SortingIsByLines → (q : List ℕ) (lines : Lines) → times q (sorted_by_bytes lines) ≡ times q lines
sorted_same law q lines = sum_by-IsPermutation (λ x. cond (bytes_eq q x) 1 0) lines (sorted_by_bytes lines) (law.0 lines).same

-- lines of a part that is known
pub kept_are : (part : Option Kept) (kept : Kept) (lines : Lines) → part ≡ Some kept → IfSome part (AreKept lines) → kept.lines ≡ sorted_by_bytes lines
kept_are part kept lines is known = subst (λ o. IfSome o (AreKept lines)) is known

-- the sorted lines of three parts, in one order, are all lines in order
pub parts_in_order : SortingIsByLines → SameLinesSortAlike → (a b c s p n all : Lines) → a ≡ sorted_by_bytes s → b ≡ sorted_by_bytes p → c ≡ sorted_by_bytes n
    → SameLines (s ++ (p ++ n)) all → sorted_by_bytes (a ++ (b ++ c)) ≡ sorted_by_bytes all
parts_in_order law alike a b c s p n all h1 h2 h3 parts = alike (a ++ (b ++ c)) all (record {
  often = λ q.
      let e1 : times q a ≡ times q (sorted_by_bytes s) = ap (times q) h1 in
      let e2 : times q b ≡ times q (sorted_by_bytes p) = ap (times q) h2 in
      let e3 : times q c ≡ times q (sorted_by_bytes n) = ap (times q) h3 in
      let e4 = parts.often q in
      omega (arith, e1, e2, e3, e4, sorted_same law q s, sorted_same law q p, sorted_same law q n, times-append q a (b ++ c), times-append q b c, times-append q s (p ++ n), times-append q p n);
})

-- what holds of the design that a text reads as
pub of_this : (T : List Record → Type 0) (text : List ℕ) (design other : List Record) → read_def text ≡ Ok design → read_def text ≡ Ok other → T design → T other
of_this T text design other reads also t = let a = reads in let b = also in let same : design ≡ other = cc in subst T same t

pub drawn_of : {A E : Type 0} (Known : Type 0) (library : Library) (text : List ℕ) (design : List Record) (r : Result (Option (DrawnNets A)) E) → read_def text ≡ Ok design
    → IfOk r (λ nets. MatchOption nets Known (λ d. AreDrawn library design d))
    → IfOk r (λ nets. MatchOption nets Known (λ d. AreDrawnOf library text d))
drawn_of Known library text design (Ok None) reads h = h
drawn_of Known library text design (Ok (Some d)) reads h = λ other also. of_this (λ (it : List Record). AreDrawn library it d) text design other reads also h
drawn_of Known library text design (Err e) reads h = tt

-- an answer that sees these lines sees all diagnostics
pub told_of : {A V E : Type 0} (seen : V → List (DiagLine A)) (library : Library) (text : List ℕ) (design : List Record) (r : Result V E) → read_def text ≡ Ok design
    → IfOk r (λ v. texts (seen v) ≡ diagnostics library design)
    → IfOk r (λ v. AreDiagnostics library text (seen v))
told_of seen library text design (Ok v) reads h = (design, reads, h)
told_of seen library text design (Err e) reads h = tt
