-- Adding entries to a table.
use Rattle.std.proofs.Common.{◌≡◌, ℕ, Bool, true, false, cond, ◌&&◌, if◌then◌else◌, List, [], ◌∷◌, ◌++◌, refl, sym, ap, ◌∙◌, Option, Some, None, is_some, arith}
use Rattle.std.specs.List.{cons_option, filter_map, find}
use Rattle.std.specs.Map.{lookup}
use Rattle.std.specs.Option.{option_map, option_or}
use Rattle.std.specs.Str.{bytes_eq}
use Rattle.std.proofs.lemmas.Slice.Eq.{bytes_eq-Decides}
use Rattle.indexmap.specs.IndexMap.{insert_entry}
use Rattle.design_model.specs.declared.mode.Section.{Section}
use Rattle.design_model.specs.EnumWords.{section_word}
use Rattle.def_grammar.specs.Records.{Entry, Record, entry, entry_of, name_of, section_of}
use Rattle.entry_rules.specs.EntryNames.{entry_named}
use Rattle.entry_rules.specs.Unknown.{is_in, is_same}
use Rattle.name_keys.specs.declared.entry_name.EntryName.{EntryName}
use Rattle.design_names.specs.Tables.{Adds, HasFirsts, found, is_key}

pub same_bytes : (a b : List ℕ) → bytes_eq a b ≡ true → a ≡ b
same_bytes a b t = grind (arith, bytes_eq-Decides)

pub bytes_eq_sym : (a b : List ℕ) → bytes_eq a b ≡ bytes_eq b a
bytes_eq_sym a b = grind (arith, bytes_eq-Decides)

or_none : {A : Type 0} (o : Option A) → option_or o None ≡ o
or_none None = refl
or_none (Some a) = refl

or_chain : {A : Type 0} (a b c : Option A) → option_or (option_or a b) c ≡ option_or a (option_or b c)
or_chain None b c = refl
or_chain (Some x) b c = refl

first_or : {A : Type 0} (b : Bool) (a : A) (o : Option A) → option_or (cond b (Some a) None) o ≡ cond b (Some a) o
first_or true a o = refl
first_or false a o = refl

and_left : (a b : Bool) → (a && b) ≡ true → a ≡ true
and_left true b h = refl
and_left false b h = h

and_right : (a b : Bool) → (a && b) ≡ true → b ≡ true
and_right true b h = h
and_right false b h = cc

and_false : (b : Bool) → (b && false) ≡ false
and_false true = refl
and_false false = refl

same_some : {A : Type 0} (a b : A) → Some a ≡ Some b → a ≡ b
same_some a b h = cc

module _ {E : Type 0} (view : E → Entry) where
  seen_or : (b : Bool) (x : E) (r q : Option E) → option_map view r ≡ option_map view q → option_map view (cond b (Some x) r) ≡ option_map view (cond b (Some x) q)
  seen_or true x r q h = refl
  seen_or false x r q h = h

  -- an entry that comes last is found where nothing before it is
  found_last : (table : List (EntryName × E)) (last : EntryName × E) (s : Section) (name : List ℕ)
      → found view (table ++ last ∷ []) s name ≡ option_or (found view table s name) (found view (last ∷ []) s name)
  found_last [] last s name = refl
  found_last (e ∷ es) last s name = found_last_step (is_key (section_word s) name e.0) e.1 (lookup (is_key (section_word s) name) (es ++ last ∷ [])) (lookup (is_key (section_word s) name) es) (found view (last ∷ []) s name) (found_last es last s name)
    where
      found_last_step : (b : Bool) (x : E) (r q : Option E) (l : Option Entry) → option_map view r ≡ option_or (option_map view q) l
          → option_map view (cond b (Some x) r) ≡ option_or (option_map view (cond b (Some x) q)) l
      found_last_step true x r q l h = refl
      found_last_step false x r q l h = h

  module _ (e : Entry) (name : List ℕ) (is : name_of e ≡ Some name) where
    test_is : (s : Section) (other : List ℕ) → is_in s other e ≡ (bytes_eq (section_word (section_of e)) (section_word s) && bytes_eq name other)
    test_is s other = ap (λ (o : Option (List ℕ)). bytes_eq (section_word (section_of e)) (section_word s) && is_same other o) is

    module _ (old : List (EntryName × E)) where
      -- its name is taken
      taken_in : (s : Section) (other : List ℕ) (b : Bool) → is_in s other e ≡ b → is_some (lookup (is_key (section_word (section_of e)) name) old) ≡ true
          → found view old s other ≡ option_or (found view old s other) (cond b (Some e) None)
      taken_in s other false other_key there = sym (or_none (found view old s other))
      taken_in s other true same_key there =
          let both = sym (test_is s other) ∙ same_key in
          let word : section_word (section_of e) ≡ section_word s = same_bytes (section_word (section_of e)) (section_word s) (and_left (bytes_eq (section_word (section_of e)) (section_word s)) (bytes_eq name other) both) in
          let same : name ≡ other = same_bytes name other (and_right (bytes_eq (section_word (section_of e)) (section_word s)) (bytes_eq name other) both) in
          stays (lookup (is_key (section_word s) other) old) (rw (← word, ← same) there)
        where
          stays : (o : Option E) → is_some o ≡ true → option_map view o ≡ option_or (option_map view o) (Some e)
          stays None h = cc
          stays (Some x) h = refl

      pub adds_none : is_some (lookup (is_key (section_word (section_of e)) name) old) ≡ true → Adds view old old e
      adds_none there = record { first = λ s other. taken_in s other (is_in s other e) refl there }

      module _ (key : EntryName) (x : E) (word_is : key.word.now ≡ section_word (section_of e)) (name_is : key.name.now ≡ name) where
        put_step : (b : Bool) (k : EntryName × E) (es more : List (EntryName × E)) (r : Option E) → is_some (cond b (Some k.1) r) ≡ false → (is_some r ≡ false → more ≡ es ++ (key, x) ∷ [])
            → (if b then (k.0, x) ∷ es else k ∷ more) ≡ k ∷ (es ++ (key, x) ∷ [])
        put_step true k es more r h i = cc
        put_step false k es more r h i = ap (λ z. k ∷ z) (i h)

        put_last : (es : List (EntryName × E)) → is_some (lookup (is_key key.word.now key.name.now) es) ≡ false → insert_entry (λ (a b : EntryName). is_key a.word.now a.name.now b) es key x ≡ es ++ (key, x) ∷ []
        put_last [] h = refl
        put_last (k ∷ es) h = put_step (is_key key.word.now key.name.now k.0) k es (insert_entry (λ (a b : EntryName). is_key a.word.now a.name.now b) es key x) (lookup (is_key key.word.now key.name.now) es) h (put_last es)

        -- one that is put in the place of another, which is then put back
        put_over : (c : Bool) (k : EntryName × E) (es more : List (EntryName × E)) (first : E)
            → insert_entry (λ (a b : EntryName). is_key a.word.now a.name.now b) (if c then (k.0, x) ∷ es else k ∷ more) key first
            ≡ (if c then (if is_key key.word.now key.name.now k.0 then (k.0, first) ∷ es else (k.0, x) ∷ insert_entry (λ (a b : EntryName). is_key a.word.now a.name.now b) es key first)
            else (if is_key key.word.now key.name.now k.0 then (k.0, first) ∷ more else k ∷ insert_entry (λ (a b : EntryName). is_key a.word.now a.name.now b) more key first))
        put_over true k es more first = refl
        put_over false k es more first = refl

        back_step : (b : Bool) (k : EntryName × E) (es more other back : List (EntryName × E)) (first : E) (r : Option E) → cond b (Some k.1) r ≡ Some first → (r ≡ Some first → back ≡ es)
            → (if b then (if b then (k.0, first) ∷ es else other) else (if b then (k.0, first) ∷ more else k ∷ back)) ≡ k ∷ es
        back_step true k es more other back first r h i = ap (λ v. (k.0, v) ∷ es) (sym (same_some k.1 first h))
        back_step false k es more other back first r h i = ap (λ z. k ∷ z) (i h)

        put_back : (es : List (EntryName × E)) (first : E) → lookup (is_key key.word.now key.name.now) es ≡ Some first
            → insert_entry (λ (a b : EntryName). is_key a.word.now a.name.now b) (insert_entry (λ (a b : EntryName). is_key a.word.now a.name.now b) es key x) key first ≡ es
        put_back [] first h = cc
        put_back (k ∷ es) first h =
            put_over (is_key key.word.now key.name.now k.0) k es (insert_entry (λ (a b : EntryName). is_key a.word.now a.name.now b) es key x) first
            ∙ back_step (is_key key.word.now key.name.now k.0) k es (insert_entry (λ (a b : EntryName). is_key a.word.now a.name.now b) es key x) ((k.0, x) ∷ insert_entry (λ (a b : EntryName). is_key a.word.now a.name.now b) es key first)
            (insert_entry (λ (a b : EntryName). is_key a.word.now a.name.now b) (insert_entry (λ (a b : EntryName). is_key a.word.now a.name.now b) es key x) key first) first
            (lookup (is_key key.word.now key.name.now) es) h (put_back es first)

        -- its name is taken, and the first entry stays
        pub adds_back : (between new : List (EntryName × E)) (first : E) → lookup (is_key key.word.now key.name.now) old ≡ Some first
            → between ≡ insert_entry (λ (a b : EntryName). is_key a.word.now a.name.now b) old key x → new ≡ insert_entry (λ (a b : EntryName). is_key a.word.now a.name.now b) between key first → Adds view old new e
        adds_back between new first there put back =
            let same : new ≡ old = back ∙ ap (λ (z : List (EntryName × E)). insert_entry (λ (a b : EntryName). is_key a.word.now a.name.now b) z key first) put ∙ put_back old first there in
            rw (same) (adds_none (ap (λ (z : List ℕ). is_some (lookup (is_key z name) old)) (sym word_is) ∙ ap (λ (z : List ℕ). is_some (lookup (is_key key.word.now z) old)) (sym name_is) ∙ ap (λ (o : Option E). is_some o) there))

        same_test : (s : Section) (other : List ℕ) → is_key (section_word s) other key ≡ is_in s other e
        same_test s other = rw (test_is s other, word_is, name_is, bytes_eq_sym (section_word s) (section_word (section_of e)), bytes_eq_sym other name) refl

        put_found : (b : Bool) → view x ≡ e → option_map view (cond b (Some x) None) ≡ cond b (Some e) None
        put_found true same = ap (λ (z : Entry). Some z) same
        put_found false same = refl

        -- a new one comes last
        pub adds_last : (new : List (EntryName × E)) → view x ≡ e → is_some (lookup (is_key key.word.now key.name.now) old) ≡ false → new ≡ insert_entry (λ (a b : EntryName). is_key a.word.now a.name.now b) old key x → Adds view old new e
        adds_last new same absent put = record {
          first = λ s other.
              ap (λ (z : List (EntryName × E)). found view z s other) (put ∙ put_last old absent)
              ∙ found_last old (key, x) s other
              ∙ ap (λ (z : Option Entry). option_or (found view old s other) z)
              (ap (λ (b : Bool). option_map view (cond b (Some x) None)) (same_test s other) ∙ put_found (is_in s other e) same);
        }

  -- nor is one without a name
  pub adds_unnamed : (e : Entry) (old : List (EntryName × E)) → name_of e ≡ None → Adds view old old e
  adds_unnamed e old is = record {
    first = λ s name.
        sym (or_none (found view old s name))
        ∙ ap (λ (b : Bool). option_or (found view old s name) (cond b (Some e) None))
        (sym (ap (λ (o : Option (List ℕ)). bytes_eq (section_word (section_of e)) (section_word s) && is_same name o) is ∙ and_false (bytes_eq (section_word (section_of e)) (section_word s))));
  }

  -- a table has the first entries of what was passed, where others are left of a design
  pub record Passed (table : List (EntryName × E)) (left all : List Record) : Type 0 where
    pub first : (s : Section) (name : List ℕ) → option_or (found view table s name) (entry_named left s name) ≡ entry_named all s name

  pub passed_none : (table : List (EntryName × E)) (all : List Record) → table ≡ [] → Passed table all all
  passed_none table all is = record { first = λ s name. rw is refl }

  pub passed_all : (table : List (EntryName × E)) (left all : List Record) → left ≡ [] → Passed table left all → HasFirsts view table all
  passed_all table left all is p = record {
    first = λ s name.
        sym (or_none (found view table s name))
        ∙ ap (λ (z : List Record). option_or (found view table s name) (entry_named z s name)) (sym is)
        ∙ p.first s name;
  }

  module _ (table : List (EntryName × E)) (left later all : List Record) (r : Record) (is : left ≡ r ∷ later) (p : Passed table left all) where
    of_first : (s : Section) (name : List ℕ) → option_or (found view table s name) (entry_named (r ∷ later) s name) ≡ entry_named all s name
    of_first s name = ap (λ (z : List Record). option_or (found view table s name) (entry_named z s name)) (sym is) ∙ p.first s name

    -- a statement that is no entry
    pub passed_other : entry_of r ≡ None → Passed table later all
    passed_other none = record {
      first = λ s name.
          ap (λ (o : Option Entry). option_or (found view table s name) (find (is_in s name) (cons_option o (filter_map entry_of later)))) (sym none)
          ∙ of_first s name;
    }

    -- an entry
    pub passed_entry : (e : Entry) (new : List (EntryName × E)) → entry_of r ≡ Some e → Adds view table new e → Passed new later all
    passed_entry e new one adds = record {
      first = λ s name.
          ap (λ (o : Option Entry). option_or o (entry_named later s name)) (adds.first s name)
          ∙ or_chain (found view table s name) (entry_named (entry e ∷ []) s name) (entry_named later s name)
          ∙ ap (λ (o : Option Entry). option_or (found view table s name) o) (first_or (is_in s name e) e (entry_named later s name))
          ∙ ap (λ (o : Option Entry). option_or (found view table s name) (find (is_in s name) (cons_option o (filter_map entry_of later)))) (sym one)
          ∙ of_first s name;
    }
