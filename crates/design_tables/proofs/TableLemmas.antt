-- Tables of statements, and what is found in them.
use Rattle.std.proofs.Common.{◌≡◌, ℕ, ◌+◌, Bool, true, false, cond, ltb, if◌then◌else◌, not, ◌&&◌, ◌||◌, List, [], ◌∷◌, ◌++◌, filter, map, length, refl, sym, ap, ap₂, ◌∙◌, Option, Some, None, arith}
use Rattle.std.specs.Prelude.{MatchOption, codes, count_by, flat_map}
use Rattle.std.specs.List.{cons_option, filter_map, list_any}
use Rattle.std.specs.Option.{option_map, option_to_list}
use Rattle.std.specs.Str.{bytes_eq}
use Rattle.std.proofs.lemmas.List.{append-nil}
use Rattle.std.proofs.lemmas.List.Concat.{flat_map-append}
use Rattle.std.proofs.lemmas.List.Folds.{list_any-append}
use Rattle.std.proofs.lemmas.List.Sums.{sum_by-cons}
use Rattle.design_model.specs.declared.identifier.StmtId.{StmtId}
use Rattle.design_model.specs.declared.mode.Section.{Section}
use Rattle.design_model.specs.EnumWords.{section_word}
use Rattle.def_grammar.specs.Records.{Entry, Record, end_section, entry, entry_of, in_properties, name_of, section_of, top}
use Rattle.def_grammar.specs.Top.{die_area, end_design, extension, gcell_grid, header, kept, properties, row, tracks, units}
use Rattle.design_tables.specs.Listings.{AreTablesOf, Listing, SameListing, is_member, listed, marks_in, marks_named, marks_under, with_marks}
use Rattle.design_tables.specs.Lookups.{Finds, FindsAll, entries_of, ids_with, is_number, is_section}
use Rattle.design_tables.specs.Marks.{entry_mark, entry_marks, marks_of, same_role, terminal_marks, terminals_of}
use Rattle.design_tables.specs.declared.role.Mark.{Mark}
use Rattle.design_tables.specs.declared.role.Role.{Role}
use Rattle.design_tables.specs.declared.role.Role.TheVariants as roles
use Rattle.design_tables.proofs.CountLemmas.{count_both, no_role, no_terminals, of_marks}
use Rattle.design_tables.proofs.ListingLemmas.{bytes_eq_sym}
use Rattle.design_tables.proofs.MarkLemmas.{named_both}
use Rattle.design_tables.proofs.RecordLemmas.{any_agrees, has_role, is_marked}

pub same_with : (ms : List Mark) (a b : Listing) → SameListing a b → SameListing (with_marks ms a) (with_marks ms b)
same_with ms a b same = record {
  marks = λ test.
      let others = filter (λ m. not (is_member m)) ms in
      count_both test a.marks others ∙ ap (λ n. n + count_by test others) (same.marks test) ∙ sym (count_both test b.marks others);
  entries = ap (λ n. n + count_by is_member ms) same.entries;
}

pub under_both : (n : List ℕ) (xs ys : List (StmtId × Record)) → marks_under n (xs ++ ys) ≡ marks_under n xs ++ marks_under n ys
under_both n xs ys = ap (marks_named n) (flat_map-append marks_in xs ys) ∙ named_both n (flat_map marks_in xs) (flat_map marks_in ys)

pub under_one : (n : List ℕ) (x : StmtId × Record) → marks_under n (x ∷ []) ≡ marks_named n (marks_in x)
under_one n x = ap (marks_named n) (append-nil (marks_in x))

-- where as many pass, some do
module _ {X : Type 0} (test : X → Bool) where
  some_step : (b r : Bool) (n : ℕ) → r ≡ ltb 0 n → (b || r) ≡ ltb 0 (cond b 1 0 + n)
  some_step true r n h = sym (grind arith)
  some_step false r n h = grind (arith, h)

  pub some_counted : (xs : List X) → list_any test xs ≡ ltb 0 (count_by test xs)
  some_counted [] = refl
  some_counted (x ∷ xs) = some_step (test x) (list_any test xs) (count_by test xs) (some_counted xs) ∙ ap (ltb 0) (sym (sum_by-cons (λ y. cond (test y) 1 0) x xs))

  pub any_same : (xs ys : List X) → count_by test xs ≡ count_by test ys → list_any test xs ≡ list_any test ys
  any_same xs ys same = some_counted xs ∙ ap (ltb 0) same ∙ sym (some_counted ys)

  kept_step : (b c r s : Bool) → (b ≡ true → c ≡ false) → (x : X) (xs : List X) → test x ≡ c → list_any test xs ≡ s → list_any test (if not b then x ∷ xs else xs) ≡ (c || s)
  kept_step true c r s h x xs is later = later ∙ sym (ap (λ d. d || s) (h refl))
  kept_step false c r s h x xs is later = ap₂ (λ a d. a || d) is later

  pub any_kept : (out : X → Bool) → ((x : X) → out x ≡ true → test x ≡ false) → (xs : List X) → list_any test (filter (λ x. not (out x)) xs) ≡ list_any test xs
  any_kept out apart [] = refl
  any_kept out apart (x ∷ xs) = kept_step (out x) (test x) true (list_any test xs) (apart x) x (filter (λ y. not (out y)) xs) refl (any_kept out apart xs)

-- the marks under a name that have a role, by their numbers
module _ (n : List ℕ) (role : Role) (test : StmtId → Bool) where
  abbrev pub holds : Mark → Bool
  holds m = same_role m.role role && test m.id

  marks_held : (id : StmtId) (ms : List (List ℕ × Role)) → list_any holds (marks_named n (map (λ (m : List ℕ × Role). (m.0, record { role = m.1; id = id })) ms)) ≡ (test id && list_any (has_role n role) ms)
  marks_held id [] = sym (grind arith)
  marks_held id (m ∷ ms) = grind (arith, marks_held id ms)

  under_any : (xs : List (StmtId × Record)) → list_any holds (marks_under n xs) ≡ list_any (λ (x : StmtId × Record). test x.0 && is_marked n role x.1) xs
  under_any [] = refl
  under_any (x ∷ xs) =
      ap (list_any holds) (named_both n (marks_in x) (flat_map marks_in xs))
      ∙ list_any-append holds (marks_named n (marks_in x)) (marks_under n xs)
      ∙ ap₂ (λ a b. a || b) (marks_held x.0 (marks_of x.1)) (under_any xs)

  pub held : same_role role roles.Member ≡ false → (xs : List (StmtId × Record)) (es : List (List ℕ × Listing)) → AreTablesOf xs es
      → list_any holds (listed n es).marks ≡ list_any (λ (x : StmtId × Record). test x.0 && is_marked n role x.1) xs
  held other xs es are =
      any_same holds (listed n es).marks (filter (λ m. not (is_member m)) (marks_under n xs)) ((are n).marks holds)
      ∙ any_kept holds is_member (λ m is. no_member m.role is m.id) (marks_under n xs)
      ∙ under_any xs
    where
      no_member : (r : Role) → same_role r roles.Member ≡ true → (id : StmtId) → (same_role r role && test id) ≡ false
      no_member r is id = grind arith

ids_step : (role : Role) (test : StmtId → Bool) (b : Bool) (m : Mark) (ms : List Mark) (later : Bool) → list_any test (map (λ (k : Mark). k.id) ms) ≡ later
    → list_any test (map (λ (k : Mark). k.id) (if b then m ∷ ms else ms)) ≡ ((b && test m.id) || later)
ids_step role test true m ms later h = ap (λ d. test m.id || d) h
ids_step role test false m ms later h = h

pub ids_any : (role : Role) (test : StmtId → Bool) (ms : List Mark) → list_any test (ids_with role ms) ≡ list_any (λ m. same_role m.role role && test m.id) ms
ids_any role test [] = refl
ids_any role test (m ∷ ms) =
    ids_step role test (same_role m.role role) m (filter (λ (k : Mark). same_role k.role role) ms) (list_any (λ k. same_role k.role role && test k.id) ms) (ids_any role test ms)

-- what look-ups find
module _ (n : List ℕ) (role : Role) (other : same_role role roles.Member ≡ false) (says : Record → Bool) (is : (r : Record) → is_marked n role r ≡ says r) (xs : List (StmtId × Record)) (es : List (List ℕ × Listing))
    (are : AreTablesOf xs es) where
  found_by : (test : StmtId → Bool) → list_any test (ids_with role (listed n es).marks) ≡ list_any (λ (x : StmtId × Record). test x.0 && says x.1) xs
  found_by test =
      ids_any role test (listed n es).marks
      ∙ held n role test other xs es are
      ∙ any_agrees (λ (x : StmtId × Record). test x.0 && is_marked n role x.1) (λ (x : StmtId × Record). test x.0 && says x.1) (λ x. ap (λ b. test x.0 && b) (is x.1)) xs

  pub finds_all : FindsAll says xs (ids_with role (listed n es).marks)
  finds_all id = found_by (is_number id)

  own_number : (id : StmtId) (rest : List StmtId) → list_any (is_number id) (id ∷ rest) ≡ true
  own_number id rest = grind arith

  pub finds : (result : Option StmtId) (rest : List StmtId)
      → MatchOption result ((ids_with role (listed n es).marks ≡ []) × (rest ≡ [])) (λ id. ids_with role (listed n es).marks ≡ id ∷ rest) → Finds says xs result
  finds None rest h = sym (found_by (λ id. true)) ∙ ap (list_any (λ (id : StmtId). true)) h.0
  finds (Some id) rest h = sym (found_by (is_number id)) ∙ ap (list_any (is_number id)) h ∙ own_number id rest

-- the entries of a section
module _ (s : Section) where
  abbrev word : List ℕ
  word = section_word s

  abbrev counts : List ℕ × Role → Bool
  counts m = has_role word roles.Member m

  abbrev in_section : Entry → Bool
  in_section e = is_section s (section_of e)

  not_counted : (w : List ℕ) (its : Role) → same_role its roles.Member ≡ false → count_by counts ((w, its) ∷ []) ≡ 0
  not_counted w its e = no_role word roles.Member w its e

  abbrev counted : Option Entry → ℕ
  counted None = 0
  counted (Some e) = if in_section e then 1 else 0

  own_counted : (e : Entry) (o : Option (List ℕ)) → count_by counts (option_to_list (option_map (λ (name : List ℕ). (name, roles.Entry (section_of e))) o)) ≡ 0
  own_counted e None = refl
  own_counted e (Some name) = not_counted name (roles.Entry (section_of e)) refl

  member_step : (b c : Bool) (n k : ℕ) → b ≡ c → k ≡ 0 → cond (b && true) 1 0 + k ≡ (if c then 1 else 0)
  member_step true true n k e z = grind arith
  member_step false false n k e z = grind arith
  member_step true false n k e z = cc
  member_step false true n k e z = cc

  of_entry : (e : Entry) → count_by counts (marks_of (entry e)) ≡ counted (Some e)
  of_entry e =
      count_both counts (option_to_list (entry_mark e)) (entry_marks (Some e))
      ∙ ap₂ (λ a b. a + b) (own_counted e (name_of e))
      (sum_by-cons (λ m. cond (counts m) 1 0) (section_word (section_of e), roles.Member) (flat_map terminal_marks (terminals_of e))
      ∙ member_step (bytes_eq (section_word (section_of e)) word) (in_section e) 0 _ (bytes_eq_sym (section_word (section_of e)) word) (no_terminals word roles.Member refl refl refl (terminals_of e)))
      ∙ omega arith

  of_record : (r : Record) → count_by counts (marks_of r) ≡ counted (entry_of r)
  of_record (top (header t k)) = not_counted (section_word t) roles.Statement refl
  of_record (top (units k)) = not_counted (codes "UNITS") roles.Statement refl
  of_record (top end_design) = refl
  of_record (top properties) = not_counted (codes "PROPERTYDEFINITIONS") roles.Statement refl
  of_record (top (extension ts)) = refl
  of_record (top (die_area a)) = not_counted (codes "DIEAREA") roles.Statement refl
  of_record (top (row a)) = refl
  of_record (top (tracks a)) = refl
  of_record (top (gcell_grid a)) = refl
  of_record (top (kept w ws)) = refl
  of_record (in_properties p) = refl
  of_record (end_section t) = not_counted (section_word t) roles.SectionEnd refl
  of_record (entry e) = of_entry e

  entries_step : (o : Option Entry) (es : List Entry) (k : ℕ) → length (filter in_section es) ≡ k → counted o + k ≡ length (filter in_section (cons_option o es))
  entries_step None es k h = let e : 0 + k ≡ k = omega arith in e ∙ sym h
  entries_step (Some e) es k h = by (in_section e)
    where
      by : (b : Bool) → (if b then 1 else 0) + k ≡ length (if b then e ∷ filter in_section es else filter in_section es)
      by true = ap (λ n. 1 + n) (sym h) ∙ omega arith
      by false = omega (arith, h)

  of_all : (xs : List (StmtId × Record)) → count_by is_member (marks_under word xs) ≡ length (entries_of s xs)
  of_all [] = refl
  of_all (x ∷ xs) =
      ap (count_by is_member) (named_both word (marks_in x) (flat_map marks_in xs))
      ∙ count_both is_member (marks_named word (marks_in x)) (marks_under word xs)
      ∙ ap₂ (λ a b. a + b) (of_marks word roles.Member x.0 (marks_of x.1) ∙ of_record x.1) (of_all xs)
      ∙ entries_step (entry_of x.1) (filter_map (λ (y : StmtId × Record). entry_of y.1) xs) (length (entries_of s xs)) refl

  pub entries_are : (xs : List (StmtId × Record)) (es : List (List ℕ × Listing)) → AreTablesOf xs es → (listed word es).entries ≡ length (entries_of s xs)
  entries_are xs es are = (are word).entries ∙ omega (arith, of_all xs)
