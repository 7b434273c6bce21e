-- Statements within some nets, which an edit exchanges one exchange after the other.
use Rattle.std.proofs.Common.{◌≡◌, ◌≤◌, ◌+◌, ℕ, Bool, true, false, not, ◌||◌, ◌&&◌, List, [], ◌∷◌, ◌++◌, drop, filter, length, map, slice_get, Option, Some, None, refl, sym, ap, ap₂, subst, ◌∙◌, if◌then◌else◌}
use Rattle.std.specs.Prelude.{flat_map}
use Rattle.std.specs.List.{AllByRecursion, list_any}
use Rattle.std.proofs.lemmas.Grind.{flat_map-append}
use Rattle.std.proofs.lemmas.List.Elements.{filter-append}
use Rattle.std.proofs.lemmas.List.{drop_all, drop_more, map-append}
use Rattle.std.proofs.lemmas.List.Folds.{list_any-append}
use Rattle.std.proofs.lemmas.Option.{get_or_from_slice_get, slice_get_within}
use Rattle.design_model.specs.declared.identifier.StmtId.{StmtId}
use Rattle.form_meanings.specs.Firsts.{first_of}
use Rattle.def_grammar.specs.Nets.{is_net, must_join}
use Rattle.def_grammar.specs.Pins.{net_of_clause}
use Rattle.def_grammar.specs.Records as records
use Rattle.def_grammar.specs.Records.{Record, end_section, entry, in_properties, top}
use Rattle.def_grammar.specs.Terminals.{Terminal, is_of_all}
use Rattle.entry_rules.specs.Unknown.{is_same}
use Rattle.net_laws.specs.NetChanges.{AgreeApart, ApartOnAndOn, is_one_of}
use Rattle.net_laws.specs.NetsTold.{FindsAlike, is_common, is_of_net, terminals_in, terminals_of}
use Rattle.net_laws.specs.StarNets.{AgreeOnAndOn, OneExchangedAgree}
use Rattle.net_laws.specs.OneNet.{is_of_pins}
use Rattle.net_laws.specs.Within.{AreWithin, Listed, NoOtherLists, WithinApart, a_component, is_none_or_one_of, is_within, pin_in}
use Rattle.net_laws.proofs.Selecting.{exchanged_alike, none_of_both}
use Rattle.net_laws.proofs.Within.{none_common}
use Rattle.text_pieces.specs.KeptRecords.{record_of, records_under}
use Rattle.text_pieces.specs.Tables.{Kept, kept_at}
use Rattle.design_text.specs.Exchanges.{AreExchanges, Exchanged, IsExchange}
use Rattle.followed_nets.specs.Noted.{AreCommon, said, tells_any}
use Rattle.followed_nets.specs.Within.{Cover, Leaves}

-- a design agrees with itself apart from any nets
finds_itself : (design : List Record) (ts : List Terminal) → AllByRecursion (FindsAlike design design) ts
finds_itself design [] = tt
finds_itself design (t ∷ ts) = (record { named = refl; all = λ h. refl }, finds_itself design ts)

pub agrees : (design : List Record) (test : List ℕ → Bool) → AgreeApart design design test
agrees design test = record { common = refl; names = refl; agree = λ net h. record { common = refl; entries = refl; pins = refl; components = finds_itself design (terminals_in design net) } }

-- numbered statements by what they say
any_said : (test : Record → Bool) (rs : List (StmtId × Record)) → list_any (λ (x : StmtId × Record). test x.1) rs ≡ list_any test (said rs)
any_said test [] = refl
any_said test (x ∷ rs) = ap (λ (b : Bool). test x.1 || b) (any_said test rs)

-- whether one of some statements lists a pin of all components
abbrev stars : List Record → Bool
stars rs = list_any is_of_all (flat_map terminals_of rs)

stars-append : (xs ys : List Record) → stars (xs ++ ys) ≡ (stars xs || stars ys)
stars-append xs ys = ap (list_any is_of_all) (flat_map-append terminals_of xs ys) ∙ list_any-append is_of_all (flat_map terminals_of xs) (flat_map terminals_of ys)

stars_of_both : (xs ys : List Record) → stars (xs ++ ys) ≡ false → (stars xs ≡ false) × (stars ys ≡ false)
stars_of_both xs ys h = none_of_both (stars xs) (stars ys) (sym (stars-append xs ys) ∙ h)

-- a net whose entries come from several places lists none where none of these does
module _ (net : List ℕ) where
  abbrev of_net : List Record → List Record
  of_net rs = filter (is_of_net net) rs

  of_both : (xs ys : List Record) → stars (of_net xs) ≡ false → stars (of_net ys) ≡ false → stars (of_net (xs ++ ys)) ≡ false
  of_both xs ys g h = ap stars (filter-append (is_of_net net) xs ys) ∙ stars-append (of_net xs) (of_net ys) ∙ ap₂ (λ (a b : Bool). a || b) g h

  each_of_both : (xs ys : List Record) → stars (of_net (xs ++ ys)) ≡ false → (stars (of_net xs) ≡ false) × (stars (of_net ys) ≡ false)
  each_of_both xs ys h = stars_of_both (of_net xs) (of_net ys) (ap stars (sym (filter-append (is_of_net net) xs ys)) ∙ h)

  fewer : (xs : List Record) → stars xs ≡ false → stars (of_net xs) ≡ false
  fewer [] h = refl
  fewer (x ∷ xs) h =
      let parts = stars_of_both (x ∷ []) xs h in
      one (is_of_net net x) parts.0 (fewer xs parts.1)
    where
      one : (b : Bool) → stars (x ∷ []) ≡ false → stars (of_net xs) ≡ false → stars (if b then x ∷ of_net xs else of_net xs) ≡ false
      one true g h = stars-append (x ∷ []) (of_net xs) ∙ ap₂ (λ (a b : Bool). a || b) g h
      one false g h = h

-- statements within some nets are within more
module _ (nets more : List (List ℕ)) (subject : Listed) (cover : Cover more nets) where
  covered : (name : List ℕ) (b : Bool) → is_one_of nets name ≡ b → not b ≡ false → not (is_one_of more name) ≡ false
  covered name true is h = ap not (cover name is)
  covered name false is h = absurd (cc)

  covered_or_none : (net : Option (List ℕ)) → not (is_none_or_one_of nets net) ≡ false → not (is_none_or_one_of more net) ≡ false
  covered_or_none None h = h
  covered_or_none (Some name) h = covered name (is_one_of nets name) refl h

  covered_pin : (own : Bool) (named : Option (List ℕ)) → not (own && is_none_or_one_of nets named) ≡ false → not (own && is_none_or_one_of more named) ≡ false
  covered_pin true named h = covered_or_none named h
  covered_pin false named h = h

  within_more : (r : Record) → not (is_within nets subject r) ≡ false → not (is_within more subject r) ≡ false
  within_more (top t) h = h
  within_more (in_properties p) h = h
  within_more (end_section s) h = h
  within_more (entry (records.component x)) h = h
  within_more (entry (records.pin x)) h = covered_pin (is_same x.name (pin_in subject)) (first_of net_of_clause x.clauses) h
  within_more (entry (records.region x)) h = h
  within_more (entry (records.group x)) h = h
  within_more (entry (records.blockage x)) h = h
  within_more (entry (records.net (is_net n))) h = covered n.name (is_one_of nets n.name) refl h
  within_more (entry (records.net (must_join x))) h = h
  within_more (entry (records.special_net n)) h = covered n.name (is_one_of nets n.name) refl h
  within_more (entry (records.via x)) h = h
  within_more (entry (records.rule x)) h = h
  within_more (entry (records.skipped s x)) h = h

  all_within_more : (rs : List Record) → AreWithin nets subject rs → AreWithin more subject rs
  all_within_more [] h = refl
  all_within_more (r ∷ rs) h =
      let both = none_of_both (not (is_within nets subject r)) (list_any (λ (x : Record). not (is_within nets subject x)) rs) h in
      ap₂ (λ (a b : Bool). a || b) (within_more r both.0) (all_within_more rs both.1)

-- one of some exchanges, and those behind it
pub next_of : (slots : List (Option Kept)) (old last : List (StmtId × Record)) (xs : List Exchanged) (n : ℕ) (x : Exchanged) → Some x ≡ slice_get xs n → AreExchanges slots old (drop n xs) last
    → (between : List (StmtId × Record)) × IsExchange slots old between x × AreExchanges slots between (drop (n + 1) xs) last
next_of slots old last xs n x is made =
    let there = drop_more xs n x (slice_get_within xs n x (sym is)) ∙ ap (λ (y : Exchanged). y ∷ drop (n + 1) xs) (get_or_from_slice_get xs n x x (sym is)) in
    subst (λ (ys : List Exchanged). AreExchanges slots old ys last) there made

-- what a test says of a list in which it finds none
pub none_where : (found any : Bool) → found ≡ not any → found ≡ true → any ≡ false
none_where found true is h = absurd (cc)
none_where found false is h = refl

-- no pin of the design is within where the edit is of none
module _ (nets : List (List ℕ)) (subject : Listed) (none : pin_in subject ≡ None) where
  other_pin : (name : List ℕ) (b : Bool) (found : Option (List ℕ)) → found ≡ None → not (is_same name found && b) ≡ false → true ≡ false
  other_pin name b None is h = h
  other_pin name b (Some own) is h = absurd (cc)

  no_pin : (r : Record) → not (is_within nets subject r) ≡ false → is_of_pins r ≡ false
  no_pin (top t) h = refl
  no_pin (in_properties p) h = refl
  no_pin (end_section s) h = refl
  no_pin (entry (records.component x)) h = refl
  no_pin (entry (records.pin x)) h = other_pin x.name (is_none_or_one_of nets (first_of net_of_clause x.clauses)) (pin_in subject) none h
  no_pin (entry (records.region x)) h = refl
  no_pin (entry (records.group x)) h = refl
  no_pin (entry (records.blockage x)) h = refl
  no_pin (entry (records.net x)) h = refl
  no_pin (entry (records.special_net x)) h = refl
  no_pin (entry (records.via x)) h = refl
  no_pin (entry (records.rule x)) h = refl
  no_pin (entry (records.skipped s x)) h = refl

  none_tells : (rs : List Record) → AreWithin nets subject rs → list_any is_common rs ≡ false → list_any tells_any rs ≡ false
  none_tells [] within commons = refl
  none_tells (r ∷ rs) within commons =
      let w = none_of_both (not (is_within nets subject r)) (list_any (λ (x : Record). not (is_within nets subject x)) rs) within in
      let c = none_of_both (is_common r) (list_any is_common rs) commons in
      ap₂ (λ (a b : Bool). a || b) (ap₂ (λ (a b : Bool). a || b) c.0 (no_pin r w.0)) (none_tells rs w.1 c.1)

-- Statements are within some nets and what an edit is of, and none of them lists a pin of all components.
module _ (nets : List (List ℕ)) (subject : Listed) where
  abbrev pub outside : Record → Bool
  outside r = not (is_within nets subject r) || list_any is_of_all (terminals_of r)

  record Within (rs : List Record) : Type 0 where
    are : AreWithin nets subject rs
    stars_are : stars rs ≡ false

  all_within : (rs : List Record) → list_any outside rs ≡ false → Within rs
  all_within [] h = record { are = refl; stars_are = refl }
  all_within (r ∷ rs) h =
      let both = none_of_both (outside r) (list_any outside rs) h in
      let here = none_of_both (not (is_within nets subject r)) (list_any is_of_all (terminals_of r)) both.0 in
      let later = all_within rs both.1 in
      record {
        are = ap₂ (λ (a b : Bool). a || b) here.0 later.are;
        stars_are = list_any-append is_of_all (terminals_of r) (flat_map terminals_of rs) ∙ ap₂ (λ (a b : Bool). a || b) here.1 later.stars_are;
      }

  module _ (slots : List (Option Kept)) where
    abbrev these : List StmtId → List (StmtId × Record)
    these ids = records_under slots ids

    abbrev say : List StmtId → List Record
    say ids = said (these ids)

    abbrev kept : List StmtId → List Record
    kept ids = map (λ id. record_of (kept_at slots id)) ids

    kept_said : (ids : List StmtId) → kept ids ≡ say ids
    kept_said [] = refl
    kept_said (i ∷ ids) = ap (λ (l : List Record). record_of (kept_at slots i) ∷ l) (kept_said ids)

    within_said : (ids : List StmtId) → list_any outside (kept ids) ≡ false → Within (say ids)
    within_said ids h = all_within (say ids) (ap (list_any outside) (sym (kept_said ids)) ∙ h)

    parted : (front some rest : List StmtId) → these (front ++ (some ++ rest)) ≡ these front ++ (these some ++ these rest)
    parted front some rest =
        map-append (λ id. (id, record_of (kept_at slots id))) front (some ++ rest)
        ∙ ap (λ (l : List (StmtId × Record)). these front ++ l) (map-append (λ id. (id, record_of (kept_at slots id))) some rest)

    said_parted : (front some rest : List StmtId) → say (front ++ (some ++ rest)) ≡ say front ++ (say some ++ say rest)
    said_parted front some rest =
        ap said (parted front some rest)
        ∙ map-append (λ x. x.1) (these front) (these some ++ these rest)
        ∙ ap (λ (l : List Record). say front ++ l) (map-append (λ x. x.1) (these some) (these rest))

    none_numbered : pin_in subject ≡ None → (ids : List StmtId) → Within (say ids) → list_any (λ (x : StmtId × Record). tells_any x.1) (these ids) ≡ false
    none_numbered none ids w = any_said tells_any (these ids) ∙ none_tells nets subject none (say ids) w.are (none_common nets subject (say ids) w.are)

    -- one exchange
    module _ (law : WithinApart) (but : OneExchangedAgree) (old new : List (StmtId × Record)) (x : Exchanged) (e : IsExchange slots old new x) (goes : Within (say x.went)) (comes : Within (say x.came)) where
      old_said : said old ≡ say e.front ++ (say x.went ++ say e.rest)
      old_said = ap said e.old_is ∙ said_parted e.front x.went e.rest

      new_said : said new ≡ say e.front ++ (say x.came ++ say e.rest)
      new_said = ap said e.new_is ∙ said_parted e.front x.came e.rest

      same_common : pin_in subject ≡ None → filter (λ (y : StmtId × Record). tells_any y.1) old ≡ filter (λ (y : StmtId × Record). tells_any y.1) new
      same_common none =
          let f = filter (λ (y : StmtId × Record). tells_any y.1) in
          ap f (e.old_is ∙ parted e.front x.went e.rest)
          ∙ exchanged_alike (λ (y : StmtId × Record). tells_any y.1) (these e.front) (these x.went) (these x.came) (these e.rest) (none_numbered none x.went goes) (none_numbered none x.came comes)
          ∙ ap f (sym (e.new_is ∙ parted e.front x.came e.rest))

      leaves : Leaves (said old) (said new) nets subject
      leaves = record {
        apart = λ more cover lists.
            rw (old_said, new_said)
            (law (say e.front) (say x.went) (say x.came) (say e.rest) more subject (subst (λ (rs : List Record). NoOtherLists rs more subject) old_said lists)
            (all_within_more nets more subject cover (say x.went) goes.are)
            (all_within_more nets more subject cover (say x.came) comes.are));
        but = λ name net none is.
            rw (old_said, new_said)
            (but (say e.front) (say x.went) (say x.came) (say e.rest) name
            (subst (λ (ns : List (List ℕ)). AreWithin ns (a_component name) (say x.went)) none (subst (λ (s : Listed). AreWithin nets s (say x.went)) is goes.are))
            (subst (λ (ns : List (List ℕ)). AreWithin ns (a_component name) (say x.came)) none (subst (λ (s : Listed). AreWithin nets s (say x.came)) is comes.are))
            net);
        no_stars = λ net none.
            let before = each_of_both net (say e.front) (say x.went ++ say e.rest) (ap (λ (rs : List Record). stars (of_net net rs)) (sym old_said) ∙ none) in
            let behind = each_of_both net (say x.went) (say e.rest) before.1 in
            ap (λ (rs : List Record). stars (of_net net rs)) new_said
            ∙ of_both net (say e.front) (say x.came ++ say e.rest) before.0 (of_both net (say x.came) (say e.rest) (fewer net (say x.came) comes.stars_are) behind.1);
      }

    pub exchange_within : WithinApart → OneExchangedAgree → (old new : List (StmtId × Record)) (common : List StmtId) (x : Exchanged) → list_any outside (kept x.went) ≡ false → list_any outside (kept x.came) ≡ false
        → IsExchange slots old new x → Leaves (said old) (said new) nets subject × (pin_in subject ≡ None → AreCommon old common → AreCommon new common)
    exchange_within law but old new common x goes comes e =
        let w = within_said x.went goes in
        let c = within_said x.came comes in
        (leaves law but old new x e w c, λ none noted. noted ∙ ap (map (λ (y : StmtId × Record). y.0)) (same_common law but old new x e w c none))

    -- Some exchanges are left: whatever statements all began with, these begin with some that leave what those left.
    abbrev pub StaysWithin : List Exchanged → List Exchanged → List (StmtId × Record) → Type 0
    StaysWithin all left last = (old : List (StmtId × Record)) (common : List StmtId) → AreExchanges slots old all last
        → (between : List (StmtId × Record))
        × AreExchanges slots between left last
        × Leaves (said old) (said between) nets subject
        × (pin_in subject ≡ None → AreCommon old common → AreCommon between common)

    pub none_yet : (all : List Exchanged) (last : List (StmtId × Record)) → StaysWithin all all last
    none_yet all last old common made = (
      old,
      made,
      record {
        apart = λ more cover lists. (agrees (said old) (is_one_of more), lists);
        but = λ name net none is. record { common = refl; entries = refl; pins = refl; components = refl };
        no_stars = λ net none. none;
      },
      λ none noted. noted,
    )

    -- what is known of one exchange
    abbrev pub StepStays : Exchanged → Type 0
    StepStays x = (old new : List (StmtId × Record)) (common : List StmtId) → IsExchange slots old new x → Leaves (said old) (said new) nets subject × (pin_in subject ≡ None → AreCommon old common → AreCommon new common)

    on_and_on : ApartOnAndOn → AgreeOnAndOn → (a b c : List Record) → Leaves a b nets subject → Leaves b c nets subject → Leaves a c nets subject
    on_and_on apart but a b c f g = record {
      apart = λ more cover lists.
          let first = f.apart more cover lists in
          let second = g.apart more cover first.1 in
          (apart a b c (is_one_of more) first.0 second.0, second.1);
      but = λ name net none is. but a b c net name (f.but name net none is) (g.but name net none is);
      no_stars = λ net none. g.no_stars net (f.no_stars net none);
    }

    pub one_more : ApartOnAndOn → AgreeOnAndOn → (all : List Exchanged) (last : List (StmtId × Record)) (n : ℕ) (x : Exchanged) → Some x ≡ slice_get all n → StepStays x
        → StaysWithin all (drop n all) last → StaysWithin all (drop (n + 1) all) last
    one_more apart but all last n x is step stays old common made =
        let before = stays old common made in
        let next = next_of slots before.0 last all n x is before.1 in
        let after = step before.0 next.0 common next.1 in
        (next.0, next.2, on_and_on apart but (said old) (said before.0) (said next.0) before.2 after.0, λ none noted. after.1 none (before.3 none noted))

    pub in_the_end : (all : List Exchanged) (last : List (StmtId × Record)) (n : ℕ) → length all ≤ n → StaysWithin all (drop n all) last
        → (old : List (StmtId × Record)) (common : List StmtId) → AreExchanges slots old all last → Leaves (said old) (said last) nets subject × (pin_in subject ≡ None → AreCommon old common → AreCommon last common)
    in_the_end all last n done stays old common made =
        let at_last = stays old common made in
        let same : last ≡ at_last.0 = subst (λ (ys : List Exchanged). AreExchanges slots at_last.0 ys last) (drop_all n all done) at_last.1 in
        (subst (λ (rs : List (StmtId × Record)). Leaves (said old) (said rs) nets subject) (sym same) at_last.2, λ none noted. subst (λ (rs : List (StmtId × Record)). AreCommon rs common) (sym same) (at_last.3 none noted))
