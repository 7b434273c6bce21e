-- The entry of a net: by its name, and by a terminal that it lists.
use Rattle.std.proofs.Common.{◌≡◌, ◌||◌, ◌&&◌, not, ℕ, Bool, true, false, List, [], ◌∷◌, Option, Some, None, Ok, refl, sym, ap, ap₂, subst, ◌∙◌, inl, inr}
use Rattle.std.specs.List.{filter_map, list_any}
use Rattle.std.specs.Option.{option_map, option_or}
use Rattle.std.specs.Str.{bytes_eq}
use Rattle.std.proofs.lemmas.Bool.{cases_Bool, and_parts}
use Rattle.std.proofs.lemmas.Slice.Eq.{bytes_eq-Decides}
use Rattle.design_model.specs.declared.mode.Mode.TheVariants.{Top}
use Rattle.design_model.specs.declared.mode.Section.{Section}
use Rattle.design_model.specs.declared.mode.Section.TheVariants.{Nets, SpecialNets}
use Rattle.design_model.specs.EnumWords.{section_word}
use Rattle.statement_model.specs.Grammar.{Key}
use Rattle.statement_model.specs.Reading.{is_among, repeats, same_words, with_key}
use Rattle.statement_model.specs.Tokens.{Token}
use Rattle.statement_reader.specs.ReadingLaws.{RecordsAreLocated}
use Rattle.def_grammar.specs.Located.{entry_at, is_entry, is_named, located}
use Rattle.def_grammar.specs.Parts.{is_some}
use Rattle.def_grammar.specs.Records.{Entry, Record, def, end_section, entry, entry_key, entry_of, in_properties, key_of, name_of, read_def, section_of, top}
use Rattle.entry_rules.specs.Unknown.{is_in, is_same, stands_in}
use Rattle.edit_rules.specs.NetEdits.{disconnect_from, lists, lists_in, section_of_net, unroute_all}
use Rattle.edit_laws.specs.StatementLaws.{AreOnce, SameKeysAreOnce}
use Rattle.edit_laws.proofs.Keys.{fresh_is_apart, key_itself}
use Rattle.edit_laws.proofs.PlanTexts.{tokens_read}
use Rattle.def_splice.specs.LookupViews.{of_entry}
use Rattle.def_splice.specs.NetViews.{listing}
use Rattle.def_splice.proofs.SearchSteps.{all_said, any_entry, said}

-- a name is looked up by two tests, which are one
same_test : (name : List ℕ) (o : Option (List ℕ)) → is_same name o ≡ is_named name o
same_test name None = refl
same_test name (Some own) = refl

same_entry : (s : Section) (name : List ℕ) (o : Option Entry) → of_entry (is_in s name) o ≡ is_entry s name o
same_entry s name None = refl
same_entry s name (Some e) = ap (λ (b : Bool). bytes_eq (section_word (section_of e)) (section_word s) && b) (same_test name (name_of e))

-- an entry stands in a section where one is found
stands_where : (s : Section) (name : List ℕ) (xs : List (List Token × Record)) → list_any (is_in s name) (filter_map entry_of (said xs)) ≡ is_some (entry_at s name xs)
stands_where s name [] = refl
stands_where s name (x ∷ xs) =
    any_entry (is_in s name) x.1 (entry_of x.1) (said xs) refl
    ∙ ap (λ (b : Bool). b || list_any (is_in s name) (filter_map entry_of (said xs))) (same_entry s name (entry_of x.1))
    ∙ elim (cases_Bool (is_entry s name (entry_of x.1))) [ inl is ↦ rw is refl | inr other ↦ rw other (stands_where s name xs) ]

-- the key of an entry is its section and its name
named_key : (s t : Section) (name : List ℕ) (o : Option (List ℕ)) → section_word t ≡ section_word s → is_named name o ≡ true → entry_key t o ≡ section_word s ∷ name ∷ []
named_key s t name None word named = absurd (cc)
named_key s t name (Some own) word named = ap₂ (λ (v w : List ℕ). v ∷ w ∷ []) word ((bytes_eq-Decides own name).0 named)

key_is : (s : Section) (name : List ℕ) (rec : Record) → is_entry s name (entry_of rec) ≡ true → key_of rec ≡ section_word s ∷ name ∷ []
key_is s name (top t) is = absurd (cc)
key_is s name (in_properties p) is = absurd (cc)
key_is s name (end_section t) is = absurd (cc)
key_is s name (entry e) is =
    let both = and_parts (bytes_eq (section_word (section_of e)) (section_word s)) (is_named name (name_of e)) is in
    named_key s (section_of e) name (name_of e) ((bytes_eq-Decides (section_word (section_of e)) (section_word s)).0 both.0) both.1

-- a key that was seen stays seen
or_true : (a b : Bool) → b ≡ true → (a || b) ≡ true
or_true true b is = refl
or_true false b is = is

among_more : (word key : Key) (seen : List Key) → is_among seen word ≡ true → is_among (with_key key seen) word ≡ true
among_more word [] seen is = is
among_more word (v ∷ vs) seen is = or_true (same_words word (v ∷ vs)) (is_among seen word) is

key_now : (w : List ℕ) (ws : Key) (seen : List Key) → is_among (with_key (w ∷ ws) seen) (w ∷ ws) ≡ true
key_now w ws seen = rw (key_itself (w ∷ ws)) refl

-- of the entries of a section, one that lists a terminal is the one of its name
module _ (s : Section) (name c p : List ℕ) where
  abbrev Key_of_it : Key
  Key_of_it = section_word s ∷ name ∷ []

  lists_it : (o : Option Entry) → of_entry (lists_in s name c p) o ≡ (is_entry s name o && of_entry (lists c p) o)
  lists_it None = refl
  lists_it (Some e) = refl

  -- none behind it has its name
  isnt_it : (seen : List Key) (r : Record) → is_among seen Key_of_it ≡ true → repeats seen (key_of r) ≡ None → is_entry s name (entry_of r) ≡ false
  isnt_it seen r among fresh = elim (cases_Bool (is_entry s name (entry_of r))) [
    | inl is ↦
        let apart = fresh_is_apart (section_word s) (name ∷ []) seen (ap (repeats seen) (sym (key_is s name r is)) ∙ fresh) in
        absurd (cc)
    | inr other ↦ other
  ]

  none_behind : (seen : List Key) (rs : List Record) → is_among seen Key_of_it ≡ true → AreOnce seen rs → list_any (lists_in s name c p) (filter_map entry_of rs) ≡ false
  none_behind seen [] among once = refl
  none_behind seen (r ∷ rs) among once =
      let other = isnt_it seen r among once.0 in
      any_entry (lists_in s name c p) r (entry_of r) rs refl
      ∙ ap (λ (b : Bool). b || list_any (lists_in s name c p) (filter_map entry_of rs)) (lists_it (entry_of r))
      ∙ rw other (none_behind (with_key (key_of r) seen) rs (among_more Key_of_it (key_of r) seen among) once.1)

  or_none : (x : List Token × Record) → (of_entry (lists c p) (entry_of x.1) || false) ≡ is_some (listing c p (Some x))
  or_none x = elim (cases_Bool (of_entry (lists c p) (entry_of x.1))) [ inl is ↦ rw is refl | inr other ↦ rw other refl ]

  listed_where : (seen : List Key) (xs : List (List Token × Record)) → AreOnce seen (said xs) → list_any (lists_in s name c p) (filter_map entry_of (said xs)) ≡ is_some (listing c p (entry_at s name xs))
  listed_where seen [] once = refl
  listed_where seen (x ∷ xs) once =
      any_entry (lists_in s name c p) x.1 (entry_of x.1) (said xs) refl
      ∙ ap (λ (b : Bool). b || list_any (lists_in s name c p) (filter_map entry_of (said xs))) (lists_it (entry_of x.1))
      ∙ elim (cases_Bool (is_entry s name (entry_of x.1))) [
        | inl is ↦
            let among = ap (λ (k : Key). is_among (with_key k seen) Key_of_it) (key_is s name x.1 is) ∙ key_now (section_word s) (name ∷ []) seen in
            let none = none_behind (with_key (key_of x.1) seen) (said xs) among once.1 in
            rw (is, none) (or_none x)
        | inr other ↦ rw other (listed_where (with_key (key_of x.1) seen) xs once.1)
      ]

-- seeing the first of two is the first of those seen
pub seen_or : {X Y : Type 0} (view : X → Y) (o : Option X) (x : X) → option_map view (option_or o (Some x)) ≡ option_or (option_map view o) (Some (view x))
seen_or view None x = refl
seen_or view (Some y) x = refl

-- what lists a terminal was found
found_listing : (c p : List ℕ) (o : Option (List Token × Record)) (y : List Token × Record) → listing c p o ≡ Some y → o ≡ Some y
found_listing c p None y is = absurd (cc)
found_listing c p (Some x) y is = elim (cases_Bool (of_entry (lists c p) (entry_of x.1))) [
  | inl so ↦ let k : Some x ≡ Some y = rw so at is in k
  | inr not_so ↦ let k : None ≡ Some y = rw not_so at is in absurd (cc)
]

module _ (law : RecordsAreLocated def) (text : List ℕ) (design : List Record) (reads : read_def text ≡ Ok design) (name : List ℕ) where
  abbrev found_in : Section → Option (List Token × Record)
  found_in s = entry_at s name (located text design)

  pub stands_found : (s : Section) → stands_in design s name ≡ is_some (found_in s)
  stands_found s = ap (λ (rs : List Record). list_any (is_in s name) (filter_map entry_of rs)) (sym (all_said law text design reads)) ∙ stands_where s name (located text design)

  -- a net is that in NETS, or else that in SPECIALNETS
  pub net_found : (x : List Token × Record) → found_in Nets ≡ Some x → Some x ≡ found_in (section_of_net unroute_all name design)
  net_found x is =
      let there : stands_in design Nets name ≡ true = stands_found Nets ∙ ap is_some is in
      rw there (sym is)

  pub special_found : (o : Option (List Token × Record)) → found_in Nets ≡ None → o ≡ found_in SpecialNets → o ≡ found_in (section_of_net unroute_all name design)
  special_found o none is =
      let missing : stands_in design Nets name ≡ false = stands_found Nets ∙ ap is_some none in
      rw missing is

  -- for a terminal that only that in SPECIALNETS lists, it is that one
  module _ (keys_so : SameKeysAreOnce) (c p : List ℕ) where
    listed_found : (s : Section) → list_any (lists_in s name c p) (filter_map entry_of design) ≡ is_some (listing c p (found_in s))
    listed_found s =
        let once : AreOnce [] design = keys_so text 0 Top [] design design (tokens_read text design reads) refl in
        let same = all_said law text design reads in
        ap (λ (rs : List Record). list_any (lists_in s name c p) (filter_map entry_of rs)) (sym same) ∙ listed_where s name c p [] (located text design) (subst (AreOnce []) (sym same) once)

    abbrev here : Section
    here = section_of_net (disconnect_from c p) name design

    pub without_net : (o : Option (List Token × Record)) → found_in Nets ≡ None → o ≡ found_in SpecialNets → o ≡ found_in here
    without_net o none is =
        let missing : stands_in design Nets name ≡ false = stands_found Nets ∙ ap is_some none in
        elim (cases_Bool (list_any (lists_in SpecialNets name c p) (filter_map entry_of design) && not (list_any (lists_in Nets name c p) (filter_map entry_of design)))) [
          | inl so ↦ rw so is
          | inr not_so ↦ rw (not_so, missing) is
        ]

    module _ (x : List Token × Record) (is : found_in Nets ≡ Some x) where
      there : stands_in design Nets name ≡ true
      there = stands_found Nets ∙ ap is_some is

      never : (b : Bool) → (b && false) ≡ false
      never true = refl
      never false = refl

      pub net_lists : of_entry (lists c p) (entry_of x.1) ≡ true → Some x ≡ found_in here
      net_lists so =
          let own : list_any (lists_in Nets name c p) (filter_map entry_of design) ≡ true = listed_found Nets ∙ ap (λ (o : Option (List Token × Record)). is_some (listing c p o)) is ∙ rw so refl in
          rw (own, never (list_any (lists_in SpecialNets name c p) (filter_map entry_of design)), there) (sym is)

      module _ (not_so : of_entry (lists c p) (entry_of x.1) ≡ false) where
        isnt_own : list_any (lists_in Nets name c p) (filter_map entry_of design) ≡ false
        isnt_own = listed_found Nets ∙ ap (λ (o : Option (List Token × Record)). is_some (listing c p o)) is ∙ rw not_so refl

        pub either_lists : (o : Option (List Token × Record)) → o ≡ listing c p (found_in SpecialNets) → option_or o (Some x) ≡ found_in here
        either_lists None none =
            let other : list_any (lists_in SpecialNets name c p) (filter_map entry_of design) ≡ false = listed_found SpecialNets ∙ ap is_some (sym none) in
            rw (other, there) (sym is)
        either_lists (Some y) found =
            let other : list_any (lists_in SpecialNets name c p) (filter_map entry_of design) ≡ true = listed_found SpecialNets ∙ ap is_some (sym found) in
            rw (other, isnt_own) (sym (found_listing c p (found_in SpecialNets) y (sym found)))
