-- What a text has once, by marks under names.
use Rattle.std.proofs.Common.{◌≡◌, ◌≢◌, ℕ, ◌+◌, Bool, true, false, cond, ◌&&◌, List, [], ◌∷◌, refl, sym, ap, ap₂, ◌∙◌, Option, Some, None, arith}
use Rattle.std.specs.Prelude.{codes, count_by, flat_map}
use Rattle.std.specs.Option.{option_map, option_to_list}
use Rattle.std.specs.Str.{bytes_eq}
use Rattle.std.proofs.lemmas.List.Sums.{sum_by-cons}
use Rattle.design_model.specs.declared.identifier.StmtId.{StmtId}
use Rattle.design_model.specs.declared.mode.Section.{Section}
use Rattle.design_model.specs.EnumWords.{section_word}
use Rattle.statement_model.specs.Grammar.{Key}
use Rattle.statement_model.specs.Reading.{same_words}
use Rattle.def_grammar.specs.Records.{Entry, Record, end_section, entry, entry_key, in_properties, key_of, name_of, section_of, top}
use Rattle.def_grammar.specs.Top.{die_area, end_design, extension, gcell_grid, header, kept, properties, row, tracks, units}
use Rattle.design_tables.specs.Listings.{marks_in, marks_named, marks_under}
use Rattle.design_tables.specs.Marks.{entry_mark, entry_marks, key_mark, marks_of, same_role, terminal_marks, terminals_of}
use Rattle.design_tables.specs.Prepared.{keys_of}
use Rattle.design_tables.specs.declared.role.Mark.{Mark}
use Rattle.design_tables.specs.declared.role.Role.{Role}
use Rattle.design_tables.specs.declared.role.Role.TheVariants as roles
use Rattle.design_tables.proofs.CountLemmas.{count_both, no_role, no_terminals, of_marks}
use Rattle.design_tables.proofs.ListingLemmas.{bytes_eq_sym}
use Rattle.design_tables.proofs.MarkLemmas.{named_both}
use Rattle.design_tables.proofs.RecordLemmas.{has_role}

zero_plus : (n : ℕ) → 0 + n ≡ n
zero_plus n = omega arith

-- a statement by its word
module _ (n : List ℕ) where
  one_word : (w : List ℕ) → count_by (has_role n roles.Statement) ((w, roles.Statement) ∷ []) ≡ cond (same_words (n ∷ []) (w ∷ [])) 1 0
  one_word w = ap (λ b. 0 + cond (b && true) 1 0) (bytes_eq_sym w n) ∙ zero_plus (cond (bytes_eq n w && true) 1 0)

  and_no : (a : Bool) → (a && false) ≡ false
  and_no true = refl
  and_no false = refl

  -- of an entry its own mark alone may count
  own_alone : (role : Role) → same_role roles.Member role ≡ false → same_role roles.StarPin role ≡ false → same_role roles.DesignPin role ≡ false → same_role roles.Component role ≡ false → (e : Entry)
      → count_by (has_role n role) (marks_of (entry e)) ≡ count_by (has_role n role) (option_to_list (entry_mark e))
  own_alone role member star design component e =
      count_both (has_role n role) (option_to_list (entry_mark e)) (entry_marks (Some e))
      ∙ ap (λ k. count_by (has_role n role) (option_to_list (entry_mark e)) + k)
      (count_both (has_role n role) ((section_word (section_of e), roles.Member) ∷ []) (flat_map terminal_marks (terminals_of e))
      ∙ ap₂ (λ a b. a + b) (no_role n role (section_word (section_of e)) roles.Member member) (no_terminals n role star design component (terminals_of e)))
      ∙ omega arith

  no_entry : (s : Section) (o : Option (List ℕ)) → count_by (has_role n roles.Statement) (option_to_list (option_map (λ (name : List ℕ). (name, roles.Entry s)) o)) ≡ cond (same_words (n ∷ []) (entry_key s o)) 1 0
  no_entry s None = refl
  no_entry s (Some name) = no_role n roles.Statement name (roles.Entry s) refl ∙ ap (λ b. cond b 1 0) (sym (and_no (bytes_eq n (section_word s))))

  by_word : (r : Record) → count_by (has_role n roles.Statement) (marks_of r) ≡ cond (same_words (n ∷ []) (key_of r)) 1 0
  by_word (top (header t k)) = one_word (section_word t)
  by_word (top (units k)) = one_word (codes "UNITS")
  by_word (top end_design) = refl
  by_word (top properties) = one_word (codes "PROPERTYDEFINITIONS")
  by_word (top (extension ts)) = refl
  by_word (top (die_area a)) = one_word (codes "DIEAREA")
  by_word (top (row a)) = refl
  by_word (top (tracks a)) = refl
  by_word (top (gcell_grid a)) = refl
  by_word (top (kept w ws)) = refl
  by_word (in_properties p) = refl
  by_word (end_section t) = no_role n roles.Statement (section_word t) roles.SectionEnd refl
  by_word (entry e) = own_alone roles.Statement refl refl refl refl e ∙ no_entry (section_of e) (name_of e)

  -- an entry by its section and its name
  module _ (s : Section) where
    two_ways : (a b c d : Bool) → a ≡ b → c ≡ d → (a && c) ≡ (d && (b && true))
    two_ways a b c d x y = grind arith

    one_entry : (t : Section) (o : Option (List ℕ)) → count_by (has_role n (roles.Entry s)) (option_to_list (option_map (λ (name : List ℕ). (name, roles.Entry t)) o)) ≡ cond (same_words (section_word s ∷ n ∷ []) (entry_key t o)) 1 0
    one_entry t None = refl
    one_entry t (Some name) =
        zero_plus (cond (bytes_eq name n && bytes_eq (section_word t) (section_word s)) 1 0)
        ∙ ap (λ b. cond b 1 0) (two_ways (bytes_eq name n) (bytes_eq n name) (bytes_eq (section_word t) (section_word s)) (bytes_eq (section_word s) (section_word t)) (bytes_eq_sym name n) (bytes_eq_sym (section_word t) (section_word s)))

    no_word : (w : List ℕ) → count_by (has_role n (roles.Entry s)) ((w, roles.Statement) ∷ []) ≡ cond (same_words (section_word s ∷ n ∷ []) (w ∷ [])) 1 0
    no_word w = no_role n (roles.Entry s) w roles.Statement refl ∙ ap (λ b. cond b 1 0) (sym (and_no (bytes_eq (section_word s) w)))

    by_entry : (r : Record) → count_by (has_role n (roles.Entry s)) (marks_of r) ≡ cond (same_words (section_word s ∷ n ∷ []) (key_of r)) 1 0
    by_entry (top (header t k)) = no_word (section_word t)
    by_entry (top (units k)) = no_word (codes "UNITS")
    by_entry (top end_design) = refl
    by_entry (top properties) = no_word (codes "PROPERTYDEFINITIONS")
    by_entry (top (extension ts)) = refl
    by_entry (top (die_area a)) = no_word (codes "DIEAREA")
    by_entry (top (row a)) = refl
    by_entry (top (tracks a)) = refl
    by_entry (top (gcell_grid a)) = refl
    by_entry (top (kept w ws)) = refl
    by_entry (in_properties p) = refl
    by_entry (end_section t) = no_role n (roles.Entry s) (section_word t) roles.SectionEnd refl
    by_entry (entry e) = own_alone (roles.Entry s) refl refl refl refl e ∙ one_entry (section_of e) (name_of e)

-- statements of a key are counted by their marks
module _ (n : List ℕ) (role : Role) (key : Key) (tells : (r : Record) → count_by (has_role n role) (marks_of r) ≡ cond (same_words key (key_of r)) 1 0) where
  under_keys : (ys : List (StmtId × Record)) → count_by (λ (m : Mark). same_role m.role role) (marks_under n ys) ≡ count_by (same_words key) (keys_of ys)
  under_keys [] = refl
  under_keys (y ∷ ys) =
      ap (count_by (λ (m : Mark). same_role m.role role)) (named_both n (marks_in y) (flat_map marks_in ys))
      ∙ count_both (λ (m : Mark). same_role m.role role) (marks_named n (marks_in y)) (marks_under n ys)
      ∙ ap₂ (λ a b. a + b) (of_marks n role y.0 (marks_of y.1) ∙ tells y.1) (under_keys ys)
      ∙ sym (sum_by-cons (λ k. cond (same_words key k) 1 0) (key_of y.1) (keys_of ys))

pub record Counts (n : List ℕ) (role : Role) (key : Key) : Type 0 where
  pub under : (ys : List (StmtId × Record)) → count_by (λ (m : Mark). same_role m.role role) (marks_under n ys) ≡ count_by (same_words key) (keys_of ys)
  pub other : (r : Role) → same_role r role ≡ true → same_role r roles.Member ≡ false
  pub some : key ≢ []

entry_no_member : (s : Section) (r : Role) → same_role r (roles.Entry s) ≡ true → same_role r roles.Member ≡ false
entry_no_member s roles.Member h = cc
entry_no_member s roles.Statement h = refl
entry_no_member s roles.SectionEnd h = refl
entry_no_member s (roles.Entry t) h = refl
entry_no_member s roles.Component h = refl
entry_no_member s roles.DesignPin h = refl
entry_no_member s roles.StarPin h = refl

statement_no_member : (r : Role) → same_role r roles.Statement ≡ true → same_role r roles.Member ≡ false
statement_no_member roles.Member h = cc
statement_no_member roles.Statement h = refl
statement_no_member roles.SectionEnd h = refl
statement_no_member (roles.Entry t) h = refl
statement_no_member roles.Component h = refl
statement_no_member roles.DesignPin h = refl
statement_no_member roles.StarPin h = refl

pub word_counts : (w : List ℕ) → Counts w roles.Statement (w ∷ [])
word_counts w = record { under = under_keys w roles.Statement (w ∷ []) (by_word w); other = statement_no_member; some = λ e. cc }

entry_counts : (s : Section) (n : List ℕ) → Counts n (roles.Entry s) (section_word s ∷ n ∷ [])
entry_counts s n = record { under = under_keys n (roles.Entry s) (section_word s ∷ n ∷ []) (by_entry n s); other = entry_no_member s; some = λ e. cc }

-- what a text has once of a record, by its mark
abbrev pub CountsOf : Option (List ℕ × Role) → Key → Type 0
CountsOf None key = key ≡ []
CountsOf (Some m) key = Counts m.0 m.1 key

entry_of_key : (s : Section) (o : Option (List ℕ)) → CountsOf (option_map (λ (name : List ℕ). (name, roles.Entry s)) o) (entry_key s o)
entry_of_key s None = refl
entry_of_key s (Some n) = entry_counts s n

pub counts_of : (r : Record) → CountsOf (key_mark r) (key_of r)
counts_of (top (header t k)) = word_counts (section_word t)
counts_of (top (units k)) = word_counts (codes "UNITS")
counts_of (top end_design) = refl
counts_of (top properties) = word_counts (codes "PROPERTYDEFINITIONS")
counts_of (top (extension ts)) = refl
counts_of (top (die_area a)) = word_counts (codes "DIEAREA")
counts_of (top (row a)) = refl
counts_of (top (tracks a)) = refl
counts_of (top (gcell_grid a)) = refl
counts_of (top (kept w ws)) = refl
counts_of (in_properties p) = refl
counts_of (end_section t) = refl
counts_of (entry e) = entry_of_key (section_of e) (name_of e)
