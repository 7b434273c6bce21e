-- Marks that go under their names one after the other, and lists of them.
use Rattle.std.proofs.Common.{◌≡◌, ℕ, List, ◌++◌, filter, map, not, sym, ap, ap₂, ◌∙◌, arith, append_assoc, cond}
use Rattle.std.specs.Str.{bytes_eq}
use Rattle.std.proofs.lemmas.List.{map-append}
use Rattle.std.proofs.lemmas.List.Elements.{filter-append}
use Rattle.std.proofs.lemmas.List.Sums.{sum_by-append}
use Rattle.design_model.specs.declared.identifier.StmtId.{StmtId}
use Rattle.name_groups.specs.Groups.{of_name}
use Rattle.design_tables.specs.Listings.{Listing, is_member, listed, marks_named, with_marks}
use Rattle.design_tables.specs.PutMarks.{ArePut, numbered}
use Rattle.design_tables.specs.declared.role.Mark.{Mark}
use Rattle.design_tables.specs.declared.role.Role.{Role}

pub with_both : (ms more : List Mark) (l : Listing) → with_marks more (with_marks ms l) ≡ with_marks (ms ++ more) l
with_both ms more l =
    ap₂ (λ marks n. record { marks = marks; entries = n })
    (append_assoc l.marks (filter (λ m. not (is_member m)) ms) (filter (λ m. not (is_member m)) more) ∙ ap (λ k. l.marks ++ k) (sym (filter-append (λ m. not (is_member m)) ms more)))
    (omega (arith, sum_by-append (λ m. cond (is_member m) 1 0) ms more))

pub named_both : (n : List ℕ) (ms more : List (List ℕ × Mark)) → marks_named n (ms ++ more) ≡ marks_named n ms ++ marks_named n more
named_both n ms more =
    ap (map (λ (m : List ℕ × Mark). m.1)) (filter-append (λ (m : List ℕ × Mark). bytes_eq m.0 n) ms more)
    ∙ map-append (λ (m : List ℕ × Mark). m.1) (of_name (λ (m : List ℕ × Mark). m.0) n ms) (of_name (λ (m : List ℕ × Mark). m.0) n more)

pub numbered_both : (n : List ℕ) (id : StmtId) (ms more : List (List ℕ × Role)) → marks_named n (numbered id (ms ++ more)) ≡ marks_named n (numbered id ms) ++ marks_named n (numbered id more)
numbered_both n id ms more = ap (marks_named n) (map-append (λ (m : List ℕ × Role). (m.0, record { role = m.1; id = id })) ms more) ∙ named_both n (numbered id ms) (numbered id more)

-- marks put one list after the other
pub put_both : (id : StmtId) (ms more : List (List ℕ × Role)) (old then new : List (List ℕ × Listing)) → ArePut id ms old then → ArePut id more then new → ArePut id (ms ++ more) old new
put_both id ms more old then new first second = record {
  under = λ n.
      second.under n
      ∙ ap (with_marks (marks_named n (numbered id more))) (first.under n)
      ∙ with_both (marks_named n (numbered id ms)) (marks_named n (numbered id more)) (listed n old)
      ∙ ap (λ ks. with_marks ks (listed n old)) (sym (numbered_both n id ms more));
}
