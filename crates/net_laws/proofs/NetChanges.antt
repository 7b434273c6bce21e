-- Designs that agree on all nets but some: these are exchanged, and the others stay.
use Rattle.std.proofs.Common.{◌≡◌, ◌∙◌, ℕ, Bool, true, false, not, ◌||◌, List, [], ◌∷◌, ◌++◌, filter, map, sum_by, refl, sym, ap, ap₂, arith, subst, if◌then◌else◌}
use Rattle.std.specs.Prelude.{flat_map}
use Rattle.std.specs.List.{AllByRecursion, filter_map}
use Rattle.std.specs.Str.{bytes_eq}
use Rattle.std.proofs.lemmas.List.Sums.{sum_by-append, sum_by-cons}
use Rattle.std.proofs.lemmas.Slice.Eq.{bytes_eq-Decides}
use Rattle.form_meanings.specs.Firsts.{with_all}
use Rattle.def_grammar.specs.Records.{Record}
use Rattle.def_grammar.specs.Terminals.{Terminal}
use Rattle.lef_grammar.specs.Library.{Library}
use Rattle.design_rules.specs.Boxes.{scale}
use Rattle.line_laws.specs.Lines.{SameThings}
use Rattle.connection_rules.specs.NetParts.{Net, Wired, all_nets, all_wired, net_named, net_names}
use Rattle.following_laws.specs.Following.{Exchange}
use Rattle.net_laws.specs.NetChanges.{AgreeApart, ApartOnAndOn, AreToldIn, ToldNetsAreExchanged, TouchedApart, is_one_of}
use Rattle.net_laws.specs.NetExchanges.{NetsAreExchanged, nets_where}
use Rattle.net_laws.specs.NetsTold.{AgreeOnNet, FindsAlike, is_common, is_of_net, net_of_record, terminals_of}
use Rattle.net_laws.specs.OneNet.{TellNet, is_net}
use Rattle.net_laws.proofs.NetNames.{each_once_passing, names_of_net, parted, same_names, wired_names}
use Rattle.net_laws.proofs.OneNet.{same_scale}
use Rattle.net_laws.proofs.Selecting.{exchanged_alike, none_of_both}
use Rattle.net_laws.proofs.ToldNets.{same_net}
use Rattle.net_laws.proofs.Touched.{agree, bytes_eq_sym, same_stay}

pub touched_apart : TouchedApart
touched_apart front out put behind test goes comes = record {
  common = exchanged_alike is_common front out put behind goes.none_common comes.none_common;
  names = same_stay front out put behind test goes comes;
  agree = agree front out put behind test goes comes;
}

module _ (a b c : List Record) where
  find_on : (ts : List Terminal) → AllByRecursion (FindsAlike a b) ts → AllByRecursion (FindsAlike b c) ts → AllByRecursion (FindsAlike a c) ts
  find_on [] g h = tt
  find_on (t ∷ ts) g h = (record { named = g.0.named ∙ h.0.named; all = λ star. g.0.all star ∙ h.0.all star }, find_on ts g.1 h.1)

  agree_on : (net : List ℕ) → AgreeOnNet a b net → AgreeOnNet b c net → AgreeOnNet a c net
  agree_on net g h = record {
    common = g.common ∙ h.common;
    entries = g.entries ∙ h.entries;
    pins = g.pins ∙ h.pins;
    components =
        find_on (flat_map terminals_of (filter (is_of_net net) a)) g.components
        (subst (λ (es : List Record). AllByRecursion (FindsAlike b c) (flat_map terminals_of es)) (sym g.entries) h.components);
  }

pub apart_on : ApartOnAndOn
apart_on a b c test g h = record {
  common = g.common ∙ h.common;
  names = g.names ∙ h.names;
  agree = λ net fails. agree_on a b c net (g.agree net fails) (h.agree net fails);
}

-- the nets that pass a test are exchanged, and the others are the same
module _ (old new : List Record) (test : List ℕ → Bool) (apart : AgreeApart old new test) (library : Library) (u : ℕ) where
  abbrev stays : List ℕ → Bool
  stays net = not (test net)

  more_nets : (net : List ℕ) (names : List (List ℕ)) (b : Bool) → test net ≡ b → map (net_named library new u) names ≡ map (net_named library old u) names
      → map (net_named library new u) (if not b then net ∷ names else names) ≡ map (net_named library old u) (if not b then net ∷ names else names)
  more_nets net names true t later = later
  more_nets net names false t later = ap₂ (λ (n : Net) (ns : List Net). n ∷ ns) (sym (same_net library old new u net (apart.agree net t))) later

  same_nets : (names : List (List ℕ)) → map (net_named library new u) (filter stays names) ≡ map (net_named library old u) (filter stays names)
  same_nets [] = refl
  same_nets (net ∷ names) = more_nets net (filter stays names) (test net) refl (same_nets names)

  stay_alike : nets_where library new u stays ≡ nets_where library old u stays
  stay_alike = same_nets (net_names library new u) ∙ ap (map (net_named library old u)) (sym (same_names stays library old new u apart.names))

  pub exchanged : Exchange (all_nets library old u) (all_nets library new u) (nets_where library old u test) (nets_where library new u test) (nets_where library old u stays)
  exchanged = record {
    old_is = parted (net_named library old u) test (net_names library old u);
    new_is = subst (λ (ns : List Net). SameThings (all_nets library new u) (nets_where library new u test ++ ns)) stay_alike (parted (net_named library new u) test (net_names library new u));
  }

pub nets_are_exchanged : NetsAreExchanged
nets_are_exchanged library front out put behind test goes comes u =
    exchanged (front ++ (out ++ behind)) (front ++ (put ++ behind)) test (touched_apart front out put behind test goes comes) library u

-- a design in which statements tell a net has its name once
once : (library : Library) (u : ℕ) (some design : List Record) (net : List ℕ) → TellNet some design net → filter (is_net net) (net_names library design u) ≡ net ∷ []
unfolding Rattle.form_meanings.specs.Firsts.with_all
once library u some design net tell =
    each_once_passing (is_net net) [] (map (λ (w : Wired). w.name) (all_wired library design u))
    ∙ ap (λ (ns : List (List ℕ)). with_all (λ (n : List ℕ). n) [] ns)
    (ap (filter (is_net net)) (wired_names library design u design)
    ∙ names_of_net net design
    ∙ ap (filter_map net_of_record) (sym tell.agree.entries)
    ∙ sym (names_of_net net some))
    ∙ sym (each_once_passing (is_net net) [] (filter_map net_of_record some))
    ∙ ap (filter (is_net net)) tell.only
    ∙ ap (λ (b : Bool). if b then net ∷ [] else []) ((bytes_eq-Decides net net).1 refl)

none_pass : {A : Type 0} (xs : List A) → filter (λ (x : A). false) xs ≡ []
none_pass [] = refl
none_pass (x ∷ xs) = none_pass xs

-- of the names that are one of some, those that are the first, and the others
module _ (n : List ℕ) (ns : List (List ℕ)) (apart : is_one_of ns n ≡ false) where
  abbrev among : List ℕ → Bool
  among name = is_one_of (n ∷ ns) name

  first_of_them : (name : List ℕ) (b t : Bool) (names left all : List (List ℕ)) → bytes_eq name n ≡ b → among name ≡ t → filter (is_net n) left ≡ filter (is_net n) all
      → filter (is_net n) (if t then name ∷ left else left) ≡ (if b then name ∷ filter (is_net n) all else filter (is_net n) all)
  first_of_them name true true names left all is h later = ap₂ (λ (c : Bool) (l : List (List ℕ)). if c then name ∷ l else l) is later
  first_of_them name false true names left all is h later = ap₂ (λ (c : Bool) (l : List (List ℕ)). if c then name ∷ l else l) is later
  first_of_them name false false names left all is h later = later
  first_of_them name true false names left all is h later =
      absurd (let no = (none_of_both (bytes_eq n name) (is_one_of ns name) h).0 in let yes = bytes_eq_sym n name ∙ is in cc)

  firsts : (all : List (List ℕ)) → filter (is_net n) (filter among all) ≡ filter (is_net n) all
  firsts [] = refl
  firsts (name ∷ all) = first_of_them name (bytes_eq name n) (among name) all (filter among all) all refl refl (firsts all)

  other_of_them : (name : List ℕ) (b t : Bool) (left all : List (List ℕ)) → bytes_eq name n ≡ b → is_one_of ns name ≡ t
      → filter (λ (x : List ℕ). not (is_net n x)) left ≡ filter (is_one_of ns) all
      → filter (λ (x : List ℕ). not (is_net n x)) (if b || t then name ∷ left else left) ≡ (if t then name ∷ filter (is_one_of ns) all else filter (is_one_of ns) all)
  other_of_them name true true left all is h later = absurd (let same : name ≡ n = (bytes_eq-Decides name n).0 is in let no : is_one_of ns name ≡ false = ap (is_one_of ns) same ∙ apart in cc)
  other_of_them name true false left all is h later = ap (λ (c : Bool). if not c then name ∷ filter (λ (x : List ℕ). not (is_net n x)) left else filter (λ (x : List ℕ). not (is_net n x)) left) is ∙ later
  other_of_them name false true left all is h later = ap₂ (λ (c : Bool) (l : List (List ℕ)). if not c then name ∷ l else l) is later
  other_of_them name false false left all is h later = later

  others : (all : List (List ℕ)) → filter (λ (x : List ℕ). not (is_net n x)) (filter among all) ≡ filter (is_one_of ns) all
  others [] = refl
  others (name ∷ all) =
      ap (λ (c : Bool). filter (λ (x : List ℕ). not (is_net n x)) (if c || is_one_of ns name then name ∷ filter among all else filter among all)) (bytes_eq_sym n name)
      ∙ other_of_them name (bytes_eq name n) (is_one_of ns name) (filter among all) all refl refl (others all)

-- names that are told are those of the nets that are one of them
module _ (library : Library) (u : ℕ) (design : List Record) (f : List ℕ → Net) where
  abbrev names_of_design : List (List ℕ)
  names_of_design = net_names library design u

  one_more : (n : List ℕ) (ns : List (List ℕ)) (w : Net → ℕ) → is_one_of ns n ≡ false → filter (is_net n) names_of_design ≡ n ∷ []
      → sum_by w (map f (filter (is_one_of ns) names_of_design)) ≡ sum_by w (map f ns)
      → sum_by w (map f (filter (is_one_of (n ∷ ns)) names_of_design)) ≡ sum_by w (map f (n ∷ ns))
  one_more n ns w apart one later =
      let p = (parted f (is_net n) (filter (is_one_of (n ∷ ns)) names_of_design)).sums w in
      let e : sum_by w (map f (filter (is_net n) (filter (is_one_of (n ∷ ns)) names_of_design)) ++ map f (filter (λ (x : List ℕ). not (is_net n x)) (filter (is_one_of (n ∷ ns)) names_of_design)))
      ≡ sum_by w (map f (n ∷ []) ++ map f (filter (is_one_of ns) names_of_design)) =
      ap₂ (λ (xs ys : List (List ℕ)). sum_by w (map f xs ++ map f ys)) (firsts n ns apart names_of_design ∙ one) (others n ns apart names_of_design) in
      omega (arith, p, e, later, sum_by-cons w (f n) (map f (filter (is_one_of ns) names_of_design)), sum_by-cons w (f n) (map f ns))

  told_are : (nets : List (List ℕ)) → AreToldIn design nets → (w : Net → ℕ) → sum_by w (map f (filter (is_one_of nets) names_of_design)) ≡ sum_by w (map f nets)
  told_are [] told w = ap (λ (ns : List (List ℕ)). sum_by w (map f ns)) (none_pass names_of_design)
  told_are (n ∷ ns) told w = one_more n ns w told.0 (once library u told.1.0 design n told.1.1) (told_are ns told.2 w)

  pub told_where : (nets : List (List ℕ)) → AreToldIn design nets → (all stay : List Net) → SameThings all (map f (filter (is_one_of nets) names_of_design) ++ stay) → SameThings all (map f nets ++ stay)
  told_where nets told all stay same = record {
    sums = λ w.
        omega (arith, same.sums w, told_are nets told w, sum_by-append w (map f (filter (is_one_of nets) names_of_design)) stay, sum_by-append w (map f nets) stay);
  }

pub told_nets_are_exchanged : ToldNetsAreExchanged
told_nets_are_exchanged library old new nets apart told then_told =
    let scales = same_scale library old new apart.common in
    let e = exchanged old new (is_one_of nets) apart library (scale old) in
    record {
      exchange = record {
        old_is = told_where library (scale old) old (net_named library old (scale old)) nets told _ _ e.old_is;
        new_is =
            subst (λ (u : ℕ). SameThings (all_nets library new u) (map (net_named library new u) nets ++ nets_where library old (scale old) (λ (net : List ℕ). not (is_one_of nets net)))) scales
            (told_where library (scale old) new (net_named library new (scale old)) nets then_told _ _ e.new_is);
      };
      scales = scales;
    }
