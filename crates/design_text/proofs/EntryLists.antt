-- The entries that list a terminal, and those of a section.
use Rattle.std.proofs.Common.{◌≡◌, ◌≤◌, ◌&&◌, ◌||◌, not, ℕ, suc, Bool, true, false, List, [], ◌∷◌, ◌++◌, length, Option, Some, None, Result, Ok, Err, refl, sym, ap, ap₂, ◌∙◌, inl, inr, arith}
use Rattle.std.specs.Prelude.{codes}
use Rattle.std.specs.List.{filter, filter_map, list_any, zip}
use Rattle.std.specs.Str.{bytes_eq}
use Rattle.std.proofs.lemmas.Bool.{cases_Bool}
use Rattle.std.proofs.lemmas.List.{length-map}
use Rattle.std.proofs.lemmas.Slice.Eq.{bytes_eq-Decides}
use Rattle.design_model.specs.declared.fault.Fault.{Fault}
use Rattle.design_model.specs.declared.identifier.StmtId.{StmtId}
use Rattle.design_model.specs.declared.mode.Mode.{Mode}
use Rattle.design_model.specs.declared.mode.Mode.TheVariants.{Top}
use Rattle.design_model.specs.declared.mode.Section.{Section}
use Rattle.statement_model.specs.Boundaries.{is_whole}
use Rattle.statement_model.specs.Reading.{read_form}
use Rattle.statement_model.specs.Tokens.{Token, tokens}
use Rattle.statement_reader.specs.Located.{in_front, located_on}
use Rattle.form_meanings.specs.Words.{is_word}
use Rattle.def_grammar.specs.Records.{Entry, Record, def, end_section, entry, entry_of, in_properties, section_of, top}
use Rattle.def_grammar.specs.Terminals.{Terminal, is_of_all, is_of_design, is_virtual}
use Rattle.design_tables.specs.Lookups as tables
use Rattle.edit_rules.specs.NetEdits.{is_terminal, terminals_of}
use Rattle.edit_rules.specs.NetEdits as edits
use Rattle.edit_rules.specs.SectionEdits.{entries_in, is_of, is_section, lists_of}
use Rattle.measure_laws.proofs.TokenCounts.{tokens_are_fewer}
use Rattle.text_pieces.specs.Statements.{statements_of}
use Rattle.def_splice.specs.LookupViews.{of_entry}
use Rattle.def_splice.proofs.SearchSteps.{any_entry, said}
use Rattle.design_text.specs.DesignTexts.{is_listing}

any_same : {X : Type 0} (f g : X → Bool) → ((x : X) → f x ≡ g x) → (xs : List X) → list_any f xs ≡ list_any g xs
any_same f g each [] = refl
any_same f g each (x ∷ xs) = ap₂ (λ (a b : Bool). a || b) (each x) (any_same f g each xs)

any_wide : {X : Type 0} (f g : X → Bool) → ((x : X) → f x ≡ true → g x ≡ true) → (xs : List X) → list_any f xs ≡ true → list_any g xs ≡ true
any_wide f g each [] h = h
any_wide f g each (x ∷ xs) h = elim (cases_Bool (f x)) [ inl is ↦ rw (each x is) refl | inr other ↦ later (g x) (any_wide f g each xs (rw other at h)) ]
  where
    later : (b : Bool) → list_any g xs ≡ true → (b || list_any g xs) ≡ true
    later true is = refl
    later false is = is

-- the entries of a design, record by record
entries_any : (f : Entry → Bool) (rs : List Record) → list_any f (filter_map entry_of rs) ≡ list_any (λ r. of_entry f (entry_of r)) rs
entries_any f [] = refl
entries_any f (r ∷ rs) = any_entry f r (entry_of r) rs refl ∙ ap (λ (b : Bool). of_entry f (entry_of r) || b) (entries_any f rs)

same_lists : (t u : Terminal → Bool) → ((x : Terminal) → t x ≡ u x) → (o : Option Entry) → tables.entry_lists t o ≡ of_entry (λ e. list_any u (terminals_of e)) o
same_lists t u each None = refl
same_lists t u each (Some e) = any_same t u each (terminals_of e)

pub listed_of : (name : List ℕ) (rs : List Record) → list_any (tables.lists (tables.is_of name)) rs ≡ list_any (lists_of name) (filter_map entry_of rs)
listed_of name rs =
    any_same (tables.lists (tables.is_of name)) (λ r. of_entry (lists_of name) (entry_of r)) (λ r. same_lists (tables.is_of name) (is_of name) (λ t. refl) (entry_of r)) rs
    ∙ sym (entries_any (lists_of name) rs)

pub listing_any : (owner pin : List ℕ) (rs : List Record) → list_any (is_listing owner pin) rs ≡ list_any (edits.lists owner pin) (filter_map entry_of rs)
listing_any owner pin rs = sym (entries_any (edits.lists owner pin) rs)

-- a pin of the design is one of PIN
by_owner : (a v d q : Bool) → (d ≡ true → v ≡ false) → (not a && d && q) ≡ (not (a || v) && d && q)
by_owner true v d q apart = refl
by_owner false true true q apart = let e = apart refl in absurd (cc)
by_owner false false true q apart = refl
by_owner false true false q apart = refl
by_owner false false false q apart = refl

not_virtual : (t : Terminal) → is_of_design t ≡ true → is_virtual t ≡ false
not_virtual t is = let e = (bytes_eq-Decides t.owner (codes "PIN")).0 is in ap (is_word (codes "VPIN")) e

design_pin : (pin : List ℕ) (t : Terminal) → tables.is_design_pin pin t ≡ is_terminal (codes "PIN") pin t
design_pin pin t = by_owner (is_of_all t) (is_virtual t) (is_of_design t) (bytes_eq t.pin pin) (not_virtual t)

pub listed_pin : (owner pin : List ℕ) (rs : List Record) → is_word (codes "PIN") owner ≡ true → list_any (tables.lists (tables.is_design_pin pin)) rs ≡ list_any (edits.lists owner pin) (filter_map entry_of rs)
listed_pin owner pin rs is =
    let e = (bytes_eq-Decides owner (codes "PIN")).0 is in
    any_same (tables.lists (tables.is_design_pin pin)) (is_listing (codes "PIN") pin) (λ r. same_lists (tables.is_design_pin pin) (is_terminal (codes "PIN") pin) (design_pin pin) (entry_of r)) rs
    ∙ listing_any (codes "PIN") pin rs
    ∙ ap (λ (o : List ℕ). list_any (edits.lists o pin) (filter_map entry_of rs)) (sym e)

-- a pin of another owner is one of a component of its name
by_name : (a v d o q : Bool) → (o ≡ true → d ≡ false) → (not (a || v) && o && q) ≡ true → (not (a || v || d) && o) ≡ true
by_name true v d o q apart h = absurd (cc)
by_name false true d o q apart h = absurd (cc)
by_name false false d false q apart h = absurd (cc)
by_name false false false true q apart h = refl
by_name false false true true q apart h = let e = apart refl in absurd (cc)

module _ (owner pin : List ℕ) (other : is_word (codes "PIN") owner ≡ false) where
  own_pin : (t : Terminal) → is_terminal owner pin t ≡ true → tables.is_of owner t ≡ true
  own_pin t is =
      by_name (is_of_all t) (is_virtual t) (is_of_design t) (bytes_eq t.owner owner) (bytes_eq t.pin pin)
      (λ same. let e = (bytes_eq-Decides t.owner owner).0 same in ap (is_word (codes "PIN")) e ∙ other)
      is

  own_entry : (o : Option Entry) → of_entry (edits.lists owner pin) o ≡ true → tables.entry_lists (tables.is_of owner) o ≡ true
  own_entry None is = is
  own_entry (Some e) is = any_wide (is_terminal owner pin) (tables.is_of owner) own_pin (terminals_of e) is

  pub own_lists : (r : Record) → is_listing owner pin r ≡ true → tables.lists (tables.is_of owner) r ≡ true
  own_lists r is = own_entry (entry_of r) is

-- the entries of numbered statements
entries_zip : (ids : List StmtId) (rs : List Record) → length ids ≡ length rs → filter_map (λ (x : StmtId × Record). entry_of x.1) (zip ids rs) ≡ filter_map entry_of rs
entries_zip [] [] many = refl
entries_zip [] (r ∷ rs) many = absurd (omega (arith, many))
entries_zip (i ∷ is) [] many = absurd (omega (arith, many))
entries_zip (i ∷ is) (top t ∷ rs) many = entries_zip is rs (omega (arith, many))
entries_zip (i ∷ is) (in_properties p ∷ rs) many = entries_zip is rs (omega (arith, many))
entries_zip (i ∷ is) (end_section s ∷ rs) many = entries_zip is rs (omega (arith, many))
entries_zip (i ∷ is) (entry e ∷ rs) many = ap (λ (es : List Entry). e ∷ es) (entries_zip is rs (omega (arith, many)))

pub counted : (s : Section) (ids : List StmtId) (rs : List Record) → length ids ≡ length rs → length (tables.entries_of s (zip ids rs)) ≡ length (entries_in s rs)
counted s ids rs many = ap (λ (es : List Entry). length (filter (λ e. is_section s (section_of e)) es)) (entries_zip ids rs many)

-- there are no more of them than bytes
few_kept : (test : Entry → Bool) (xs : List Entry) → length (filter test xs) ≤ length xs
few_kept test [] = omega arith
few_kept test (x ∷ xs) = elim (cases_Bool (test x)) [
  | inl is ↦ let k = few_kept test xs in rw is (omega (arith, k))
  | inr other ↦ let k = few_kept test xs in rw other (omega (arith, k))
]

few_entries : (rs : List Record) → length (filter_map entry_of rs) ≤ length rs
few_entries [] = omega arith
few_entries (top t ∷ rs) = let k = few_entries rs in omega (arith, k)
few_entries (in_properties p ∷ rs) = let k = few_entries rs in omega (arith, k)
few_entries (end_section s ∷ rs) = let k = few_entries rs in omega (arith, k)
few_entries (entry e ∷ rs) = let k = few_entries rs in omega (arith, k)

few_in_front : (n : ℕ) (s : List Token) (r : Result (Record × Mode) Fault) (later : Mode → List (List Token × Record)) → ((m : Mode) → length (later m) ≤ n) → length (in_front def s r later) ≤ suc n
few_in_front n s (Ok x) later few = let k = few x.1 in omega (arith, k)
few_in_front n s (Err f) later few = omega arith

few_located : (ps before : List Token) (m : Mode) → length (located_on def m before ps) ≤ length ps
unfolding located_on
few_located [] before m = omega arith
few_located (p ∷ ps) before m = elim (cases_Bool (is_whole (def.ending m) (before ++ p ∷ []))) [
  | inl whole ↦ rw whole (few_in_front (length ps) (before ++ p ∷ []) (read_form def m (before ++ p ∷ [])) (λ after. located_on def after [] ps) (few_located ps []))
  | inr more ↦ let k = few_located ps (before ++ p ∷ []) m in rw more (omega (arith, k))
]

pub few_in_text : (s : Section) (text : List ℕ) (rs : List Record) → said (statements_of text) ≡ rs → length (entries_in s rs) ≤ length text
few_in_text s text rs is =
    let kept = few_kept (λ e. is_section s (section_of e)) (filter_map entry_of rs) in
    let entries = few_entries rs in
    let many = ap length is in
    let one : length (said (statements_of text)) ≡ length (statements_of text) = length-map (statements_of text) (λ (x : List Token × Record). x.1) in
    let stated = few_located (tokens text).pieces [] Top in
    let lexed = tokens_are_fewer text in
    omega (arith, kept, entries, many, one, stated, lexed)
