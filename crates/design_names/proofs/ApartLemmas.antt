-- Entries whose names stand once in their sections, told from a table of those before them.
use Rattle.std.proofs.Common.{◌≡◌, ℕ, Bool, true, false, cond, not, ◌&&◌, ◌||◌, List, [], ◌∷◌, refl, sym, ap, ap₂, ◌∙◌, Option, Some, None, is_some}
use Rattle.std.specs.List.{cons_option, filter_map, list_any}
use Rattle.std.specs.Map.{lookup}
use Rattle.std.specs.Option.{option_map, option_or}
use Rattle.std.specs.Str.{bytes_eq}
use Rattle.design_model.specs.declared.mode.Section.{Section}
use Rattle.design_model.specs.EnumWords.{section_word}
use Rattle.def_grammar.specs.Records.{Entry, Record, entry, entry_of, name_of, section_of}
use Rattle.entry_rules.specs.EntryNames.{entry_named}
use Rattle.entry_rules.specs.Unknown.{is_in, is_same}
use Rattle.name_keys.specs.declared.entry_name.EntryName.{EntryName}
use Rattle.design_names.specs.Apart.{IsIndex, are_apart, is_found, is_known, stands_among}
use Rattle.design_names.specs.Tables.{Adds, found, is_key}
use Rattle.design_names.proofs.TableLemmas.{Passed, bytes_eq_sym, passed_all, passed_none}

and_false : (b : Bool) → (b && false) ≡ false
and_false true = refl
and_false false = refl

and_true : (b : Bool) → (b && true) ≡ b
and_true true = refl
and_true false = refl

or_false : (b : Bool) → (b || false) ≡ b
or_false true = refl
or_false false = refl

-- an entry whose name is known no more than that of a later one
one_and_rest : (a b c d : Bool) → (not (a || b) && (c && not d)) ≡ ((not a && c) && not (b || d))
one_and_rest true b c d = refl
one_and_rest false true c d = sym (and_false c)
one_and_rest false false c d = refl

regrouped : (f k n s a : Bool) → ((f && not k) && ((n && not s) && a)) ≡ (f && ((not k && n) && (not s && a)))
regrouped true true n s a = refl
regrouped true false true s a = refl
regrouped true false false s a = refl
regrouped false k n s a = refl

among_first : (f : Entry) (es : List Entry) (s : Section) (n : Option (List ℕ)) → stands_among (f ∷ es) s n ≡ (stands_among (f ∷ []) s n || stands_among es s n)
among_first f es s None = refl
among_first f es s (Some name) = ap (λ (b : Bool). b || list_any (is_in s name) es) (sym (or_false (is_in s name f)))

some_or : {A : Type 0} (o : Option A) (b : Bool) (a : A) → is_some (option_or o (cond b (Some a) None)) ≡ (is_some o || b)
some_or (Some x) b a = refl
some_or None true a = refl
some_or None false a = refl

module _ {E : Type 0} (view : E → Entry) where
  some_seen : (o : Option E) → is_some (option_map view o) ≡ is_some o
  some_seen None = refl
  some_seen (Some x) = refl

  -- whether an entry is known is what a look-up by its name tells
  pub known_by : (table : List (EntryName × E)) (e : Entry) (name word : List ℕ) (b : Bool) → name_of e ≡ Some name → word ≡ section_word (section_of e) → is_some (lookup (is_key word name) table) ≡ b
      → b ≡ is_known view table e
  known_by table e name word b is word_is there =
      sym (ap (is_found view table (section_of e)) is
      ∙ some_seen (lookup (is_key (section_word (section_of e)) name) table)
      ∙ ap (λ (w : List ℕ). is_some (lookup (is_key w name) table)) (sym word_is)
      ∙ there)

  pub unnamed : (table : List (EntryName × E)) (e : Entry) → name_of e ≡ None → false ≡ is_known view table e
  unnamed table e is = sym (ap (is_found view table (section_of e)) is)

  -- none of some entries is known
  abbrev pub are_new : List (EntryName × E) → List Entry → Bool
  are_new table [] = true
  are_new table (e ∷ es) = not (is_known view table e) && are_new table es

  none_found : (s : Section) (n : Option (List ℕ)) → is_found view [] s n ≡ false
  none_found s None = refl
  none_found s (Some name) = refl

  new_in_none : (es : List Entry) → are_new [] es ≡ true
  new_in_none [] = refl
  new_in_none (e ∷ es) = rw (none_found (section_of e) (name_of e)) (new_in_none es)

  module _ (old new : List (EntryName × E)) (e : Entry) (adds : Adds view old new e) where
    -- by the names of both
    found_more : (f : Entry) (n m : Option (List ℕ)) → name_of f ≡ n → name_of e ≡ m → is_found view new (section_of f) n ≡ (is_found view old (section_of f) n || stands_among (f ∷ []) (section_of e) m)
    found_more f None None named is = refl
    found_more f None (Some m) named is =
        sym (or_false (is_in (section_of e) m f)
        ∙ ap (λ (o : Option (List ℕ)). bytes_eq (section_word (section_of f)) (section_word (section_of e)) && is_same m o) named
        ∙ and_false (bytes_eq (section_word (section_of f)) (section_word (section_of e))))
    found_more f (Some n) m named is =
        ap (λ (o : Option Entry). is_some o) (adds.first (section_of f) n)
        ∙ some_or (found view old (section_of f) n) (is_in (section_of f) n e) e
        ∙ ap (λ (b : Bool). is_some (found view old (section_of f) n) || b) (turned m is)
      where
        turned : (m : Option (List ℕ)) → name_of e ≡ m → is_in (section_of f) n e ≡ stands_among (f ∷ []) (section_of e) m
        turned None is =
            ap (λ (o : Option (List ℕ)). bytes_eq (section_word (section_of e)) (section_word (section_of f)) && is_same n o) is
            ∙ and_false (bytes_eq (section_word (section_of e)) (section_word (section_of f)))
        turned (Some m) is =
            ap (λ (o : Option (List ℕ)). bytes_eq (section_word (section_of e)) (section_word (section_of f)) && is_same n o) is
            ∙ ap₂ (λ (a b : Bool). a && b) (bytes_eq_sym (section_word (section_of e)) (section_word (section_of f))) (bytes_eq_sym m n)
            ∙ sym (or_false (is_in (section_of e) m f) ∙ ap (λ (o : Option (List ℕ)). bytes_eq (section_word (section_of f)) (section_word (section_of e)) && is_same m o) named)

    new_than_both : (es : List Entry) → are_new new es ≡ (are_new old es && not (stands_among es (section_of e) (name_of e)))
    new_than_both [] = none_among (name_of e)
      where
        none_among : (n : Option (List ℕ)) → true ≡ not (stands_among [] (section_of e) n)
        none_among None = refl
        none_among (Some n) = refl
    new_than_both (f ∷ es) =
        ap₂ (λ (a b : Bool). not a && b) (found_more f (name_of f) (name_of e) refl refl) (new_than_both es)
        ∙ one_and_rest (is_known view old f) (stands_among (f ∷ []) (section_of e) (name_of e)) (are_new old es) (stands_among es (section_of e) (name_of e))
        ∙ ap (λ (b : Bool). (not (is_known view old f) && are_new old es) && not b) (sym (among_first f es (section_of e) (name_of e)))

  abbrev has_none_left : List (EntryName × E) → Bool → List Entry → Bool
  has_none_left table apart es = apart && (are_new table es && are_apart es)

  -- a table has the first entries of what was passed, and a flag says whether there was no second one, where others are left
  pub record Passing (table : List (EntryName × E)) (apart : Bool) (left all : List Record) : Type 0 where
    pub firsts : Passed view table left all
    pub same : has_none_left table apart (filter_map entry_of left) ≡ are_apart (filter_map entry_of all)

  pub passing_none : (table : List (EntryName × E)) (all : List Record) → table ≡ [] → Passing table true all all
  passing_none table all is = record { firsts = passed_none view table all is; same = rw (is, new_in_none (filter_map entry_of all)) refl }

  pub index_of_all : (table : List (EntryName × E)) (apart : Bool) (left all : List Record) → left ≡ [] → Passing table apart left all → IsIndex view table apart all
  index_of_all table apart left all is p = record {
    firsts = passed_all view table left all is p.firsts;
    is_apart = sym (and_true apart) ∙ ap (λ (rs : List Record). has_none_left table apart (filter_map entry_of rs)) (sym is) ∙ p.same;
  }

  module _ (table : List (EntryName × E)) (apart : Bool) (left later all : List Record) (r : Record) (is : left ≡ r ∷ later) (p : Passing table apart left all) where
    of_first : has_none_left table apart (cons_option (entry_of r) (filter_map entry_of later)) ≡ are_apart (filter_map entry_of all)
    of_first = ap (λ (rs : List Record). has_none_left table apart (filter_map entry_of rs)) (sym is) ∙ p.same

    pub same_behind : entry_of r ≡ None → has_none_left table apart (filter_map entry_of later) ≡ are_apart (filter_map entry_of all)
    same_behind none = ap (λ (o : Option Entry). has_none_left table apart (cons_option o (filter_map entry_of later))) (sym none) ∙ of_first

    pub same_with : (e : Entry) (new : List (EntryName × E)) (taken : Bool) → entry_of r ≡ Some e → Adds view table new e → taken ≡ is_known view table e
        → has_none_left new (apart && not taken) (filter_map entry_of later) ≡ are_apart (filter_map entry_of all)
    same_with e new taken one adds known =
        let es = filter_map entry_of later in
        ap₂ (λ (t n : Bool). (apart && not t) && (n && are_apart es)) known (new_than_both table new e adds es)
        ∙ regrouped apart (is_known view table e) (are_new table es) (stands_among es (section_of e) (name_of e)) (are_apart es)
        ∙ ap (λ (o : Option Entry). has_none_left table apart (cons_option o es)) (sym one)
        ∙ of_first
