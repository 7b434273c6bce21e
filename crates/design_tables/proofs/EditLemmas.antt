-- Tables of the names that a change has to do with.
use Rattle.std.proofs.Common.{◌≡◌, ◌<◌, ℕ, ◌+◌, Bool, true, false, cond, if◌then◌else◌, not, ◌||◌, List, [], ◌∷◌, ◌++◌, get_or, length, take, filter, map, refl, sym, ap, ap₂, ◌∙◌, arith, append_assoc}
use Rattle.std.specs.Prelude.{count_by}
use Rattle.std.specs.Str.{bytes_eq}
use Rattle.std.proofs.lemmas.List.{append-nil, map-append, take_more}
use Rattle.std.proofs.lemmas.List.Elements.{filter_agree}
use Rattle.std.proofs.lemmas.List.Sums.{sum_by-append}
use Rattle.design_model.specs.declared.identifier.StmtId.{StmtId}
use Rattle.design_tables.specs.Changes.{IsEdited, edited, less, or_else_listed, without}
use Rattle.design_tables.specs.Listings.{Listing, found, has_name, is_member, listed, marks_named, unlisted, with_marks}
use Rattle.design_tables.specs.Marks.{same_role}
use Rattle.design_tables.specs.MarkViews.{name_mark_view}
use Rattle.design_tables.specs.PutMarks.{numbered}
use Rattle.design_tables.specs.declared.marks.NameMark.{NameMark}
use Rattle.design_tables.specs.declared.role.Mark.{Mark}
use Rattle.design_tables.specs.declared.role.Role.{Role}
use Rattle.design_tables.specs.declared.role.Role.TheVariants as roles
use Rattle.design_tables.proofs.ListingLemmas.{found_none, found_some, named_one, none_more, or_both, own_name, same_name}
use Rattle.design_tables.proofs.MarkLemmas.{named_both, with_both}

-- the next mark of a statement
pub next_mark : (id : StmtId) (all : List NameMark) (i : ℕ) (d : NameMark) (before : List (List ℕ × Mark)) → i < length all
    → (before ++ numbered id (map name_mark_view (take i all))) ++ ((get_or all i d).name.now, record { role = (get_or all i d).role; id = id }) ∷ [] ≡ before ++ numbered id (map name_mark_view (take (i + 1) all))
next_mark id all i d before below =
    append_assoc before (numbered id (map name_mark_view (take i all))) _
    ∙ ap (λ ms. before ++ ms)
    (sym (
    ap (λ ms. numbered id (map name_mark_view ms)) (take_more all i d below)
    ∙ ap (numbered id) (map-append name_mark_view (take i all) (get_or all i d ∷ []))
    ∙ map-append (λ (m : List ℕ × Role). (m.0, record { role = m.1; id = id })) (map name_mark_view (take i all)) (name_mark_view (get_or all i d) ∷ [])
    ))

less_none : (l : Listing) → less 0 l ≡ l
less_none l = ap (λ k. record { marks = l.marks; entries = k }) (omega arith)

-- nothing goes out and nothing is put in
edited_none : (gone : StmtId → Bool) (l : Listing) → edited gone [] [] l ≡ without gone l
edited_none gone l = none_more (less 0 (without gone l)) ∙ less_none (without gone l)

or_other : (a b : Bool) → (a || b) ≡ true → a ≡ false → b ≡ true
or_other false b e f = e
or_other true b e f = cc

module _ (gone : StmtId → Bool) (names : List (List ℕ × Listing)) where
  -- before anything is taken out
  pub edited_start : (new : List (List ℕ × Listing)) → new ≡ [] → IsEdited gone names [] [] new
  edited_start new is = rw is (record { apart = λ n h. (refl, refl); changed = λ n h. cc })

  module _ (outs puts : List (List ℕ × Mark)) (old : List (List ℕ × Listing)) (e : IsEdited gone names outs puts old) where
    -- a name that was copied
    pub edited_copied : (new : List (List ℕ × Listing)) (name : List ℕ) → ((n : List ℕ) → listed n new ≡ or_else_listed (found n old) (if bytes_eq n name then without gone (listed name names) else unlisted))
        → ((n : List ℕ) → has_name n new ≡ (has_name n old || bytes_eq n name)) → IsEdited gone names outs puts new
    edited_copied new name copied there = record {
      apart = λ n h. e.apart n (or_both (has_name n old) (bytes_eq n name) (sym (there n) ∙ h)).0;
      changed = λ n h. by n (has_name n old) refl h;
    }
      where
        by : (n : List ℕ) (b : Bool) → has_name n old ≡ b → has_name n new ≡ true → listed n new ≡ edited gone (marks_named n outs) (marks_named n puts) (listed n names)
        by n true was h = copied n ∙ ap (λ o. or_else_listed o (if bytes_eq n name then without gone (listed name names) else unlisted)) (found_some old n was) ∙ e.changed n was
        by n false was h =
            let same : bytes_eq n name ≡ true = or_other (has_name n old) (bytes_eq n name) (sym (there n) ∙ h) was in
            copied n
            ∙ ap (λ o. or_else_listed o (if bytes_eq n name then without gone (listed name names) else unlisted)) (found_none old n was)
            ∙ ap (λ b. if b then without gone (listed name names) else unlisted) same
            ∙ ap (λ k. without gone (listed k names)) (sym (same_name n name same))
            ∙ sym (edited_none gone (listed n names))
            ∙ ap₂ (λ o p. edited gone o p (listed n names)) (sym (e.apart n was).0) (sym (e.apart n was).1)

    named_more : (n name : List ℕ) (m : Mark) (ms : List (List ℕ × Mark)) → marks_named n (ms ++ (name, m) ∷ []) ≡ marks_named n ms ++ (if bytes_eq name n then m ∷ [] else [])
    named_more n name m ms = named_both n ms ((name, m) ∷ []) ∙ ap (λ k. marks_named n ms ++ k) (named_one n name m)

    not_here : (name : List ℕ) → has_name name old ≡ true → (n : List ℕ) → has_name n old ≡ false → bytes_eq name n ≡ false
    not_here name there n none = by (bytes_eq name n) refl
      where
        by : (b : Bool) → bytes_eq name n ≡ b → b ≡ false
        by false is = refl
        by true is = let here : has_name n old ≡ true = ap (λ k. has_name k old) (sym (same_name name n is)) ∙ there in sym here ∙ none

    -- a mark that is put in
    pub edited_put : (new : List (List ℕ × Listing)) (name : List ℕ) (m : Mark) → has_name name old ≡ true → ((n : List ℕ) → has_name n new ≡ (has_name n old || bytes_eq n name))
        → ((n : List ℕ) → listed n new ≡ with_marks (marks_named n ((name, m) ∷ [])) (listed n old)) → IsEdited gone names outs (puts ++ (name, m) ∷ []) new
    edited_put new name m there has put = record {
      apart = λ n h.
          let was = (or_both (has_name n old) (bytes_eq n name) (sym (has n) ∙ h)).0 in
          ((e.apart n was).0, named_more n name m puts ∙ ap₂ (λ a b. a ++ (if b then m ∷ [] else [])) (e.apart n was).1 (not_here name there n was));
      changed = λ n h.
          put n
          ∙ ap (with_marks (marks_named n ((name, m) ∷ []))) (e.changed n (known n h (has_name n old) refl))
          ∙ with_both (marks_named n puts) (marks_named n ((name, m) ∷ [])) (less (count_by is_member (marks_named n outs)) (without gone (listed n names)))
          ∙ ap (λ ms. edited gone (marks_named n outs) ms (listed n names)) (sym (named_both n puts ((name, m) ∷ [])));
    }
      where
        known : (n : List ℕ) → has_name n new ≡ true → (b : Bool) → has_name n old ≡ b → has_name n old ≡ true
        known n h true was = was
        known n h false was = ap (λ k. has_name k old) (same_name n name (or_other (has_name n old) (bytes_eq n name) (sym (has n) ∙ h) was)) ∙ there

less_more : (o : List Mark) (m : Mark) (b : Bool) → same_role m.role roles.Member ≡ b → (gone : StmtId → Bool) (l : Listing)
    → (if b then less 1 (edited gone o [] l) else edited gone o [] l) ≡ edited gone (o ++ m ∷ []) [] l
less_more o m b is gone l = by b is
  where
    by : (b : Bool) → same_role m.role roles.Member ≡ b → (if b then less 1 (edited gone o [] l) else edited gone o [] l) ≡ edited gone (o ++ m ∷ []) [] l
    by true is =
        let one : count_by is_member (m ∷ []) ≡ 1 = ap (λ b. 0 + cond b 1 0) is ∙ omega arith in
        ap (λ k. record { marks = filter (λ (x : Mark). not (gone x.id)) l.marks ++ []; entries = k }) (omega (arith, sum_by-append (λ x. cond (is_member x) 1 0) o (m ∷ []), one))
    by false is =
        let none : count_by is_member (m ∷ []) ≡ 0 = ap (λ b. 0 + cond b 1 0) is ∙ omega arith in
        ap (λ k. record { marks = filter (λ (x : Mark). not (gone x.id)) l.marks ++ []; entries = k }) (omega (arith, sum_by-append (λ x. cond (is_member x) 1 0) o (m ∷ []), none))

-- a mark that goes out
module _ (gone : StmtId → Bool) (names : List (List ℕ × Listing)) (outs : List (List ℕ × Mark)) (old : List (List ℕ × Listing)) (e : IsEdited gone names outs [] old) where
  pub edited_out : (new : List (List ℕ × Listing)) (name : List ℕ) (m : Mark) → has_name name old ≡ true → ((n : List ℕ) → has_name n new ≡ has_name n old)
      → ((n : List ℕ) → listed n new ≡ (if bytes_eq name n then (if is_member m then less 1 (listed n old) else listed n old) else listed n old)) → IsEdited gone names (outs ++ (name, m) ∷ []) [] new
  edited_out new name m there has counted = record {
    apart = λ n h.
        let was = sym (has n) ∙ h in
        (named_more gone names outs [] old e n name m outs ∙ ap₂ (λ a b. a ++ (if b then m ∷ [] else [])) (e.apart n was).0 (not_here gone names outs [] old e name there n was), refl);
    changed = λ n h.
        let was = e.changed n (sym (has n) ∙ h) in
        counted n
        ∙ ap (λ l. if bytes_eq name n then (if is_member m then less 1 l else l) else l) was
        ∙ by n (bytes_eq name n)
        ∙ ap (λ ms. edited gone ms [] (listed n names)) (sym (named_more gone names outs [] old e n name m outs));
  }
    where
      by : (n : List ℕ) (b : Bool)
          → (if b then (if is_member m then less 1 (edited gone (marks_named n outs) [] (listed n names)) else edited gone (marks_named n outs) [] (listed n names)) else edited gone (marks_named n outs) [] (listed n names))
          ≡ edited gone (marks_named n outs ++ (if b then m ∷ [] else [])) [] (listed n names)
      by n true = less_more (marks_named n outs) m (is_member m) refl gone (listed n names)
      by n false = ap (λ ms. edited gone ms [] (listed n names)) (sym (append-nil (marks_named n outs)))

pub copied_here : (old new : List (List ℕ × Listing)) (name : List ℕ) → has_name name new ≡ (has_name name old || bytes_eq name name) → has_name name new ≡ true
copied_here old new name there = grind (arith, there, own_name name)

pub is_counted : (old new : List (List ℕ × Listing)) (name : List ℕ) (m : Mark) → is_member m ≡ true → ((n : List ℕ) → listed n new ≡ (if bytes_eq name n then less 1 (listed n old) else listed n old))
    → (n : List ℕ) → listed n new ≡ (if bytes_eq name n then (if is_member m then less 1 (listed n old) else listed n old) else listed n old)
is_counted old new name m is counted n = counted n ∙ ap (λ b. if bytes_eq name n then (if b then less 1 (listed n old) else listed n old) else listed n old) (sym is)

pub not_counted : (old : List (List ℕ × Listing)) (name : List ℕ) (m : Mark) → is_member m ≡ false → (n : List ℕ) → listed n old ≡ (if bytes_eq name n then (if is_member m then less 1 (listed n old) else listed n old) else listed n old)
not_counted old name m is n = by (bytes_eq name n) ∙ ap (λ b. if bytes_eq name n then (if b then less 1 (listed n old) else listed n old) else listed n old) (sym is)
  where
    by : (b : Bool) → listed n old ≡ (if b then listed n old else listed n old)
    by true = refl
    by false = refl

-- tests that agree
without_agrees : (f g : StmtId → Bool) → ((id : StmtId) → f id ≡ g id) → (l : Listing) → without f l ≡ without g l
without_agrees f g same l = ap (λ ms. record { marks = ms; entries = l.entries }) (filter_agree (λ (m : Mark). not (f m.id)) (λ (m : Mark). not (g m.id)) (λ m. ap not (same m.id)) l.marks)

pub edited_agrees : (f g : StmtId → Bool) → ((id : StmtId) → f id ≡ g id) → (names new : List (List ℕ × Listing)) (outs puts : List (List ℕ × Mark)) → IsEdited f names outs puts new → IsEdited g names outs puts new
edited_agrees f g same names new outs puts e = record {
  apart = e.apart;
  changed = λ n h. e.changed n h ∙ ap (λ l. with_marks (marks_named n puts) (less (count_by is_member (marks_named n outs)) l)) (without_agrees f g same (listed n names));
}

pub next_out : (gone : StmtId → Bool) (names new : List (List ℕ × Listing)) (id : StmtId) (all : List NameMark) (i : ℕ) (d : NameMark) (outs : List (List ℕ × Mark)) → i < length all
    → IsEdited gone names ((outs ++ numbered id (map name_mark_view (take i all))) ++ ((get_or all i d).name.now, record { role = (get_or all i d).role; id = id }) ∷ []) [] new
    → IsEdited gone names (outs ++ numbered id (map name_mark_view (take (i + 1) all))) [] new
next_out gone names new id all i d outs below e = rw (← next_mark id all i d outs below) e
