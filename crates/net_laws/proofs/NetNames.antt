-- The names of the nets of a design, each once, and those of them that pass a test.
use Rattle.std.proofs.Common.{◌≡◌, ◌∙◌, ℕ, Bool, true, false, not, ◌||◌, List, [], ◌∷◌, ◌++◌, filter, map, sum_by, Option, Some, refl, sym, ap, ap₂, arith, if◌then◌else◌}
use Rattle.std.specs.List.{cons_option, filter_map, list_any}
use Rattle.std.specs.Str.{bytes_eq}
use Rattle.std.proofs.lemmas.List.{append-nil}
use Rattle.std.proofs.lemmas.List.Elements.{filter-append}
use Rattle.std.proofs.lemmas.Slice.Eq.{bytes_eq-Decides}
use Rattle.std.proofs.lemmas.List.Sums.{sum_by-append, sum_by-cons}
use Rattle.form_meanings.specs.Words.{◌>>=◌}
use Rattle.form_meanings.specs.Firsts.{has_name, with_all, with_first}
use Rattle.def_grammar.specs.Nets.{is_net, must_join}
use Rattle.def_grammar.specs.Records as records
use Rattle.def_grammar.specs.Records.{Record, end_section, entry, entry_of, in_properties, top}
use Rattle.lef_grammar.specs.Library.{Library}
use Rattle.line_laws.specs.Lines.{SameThings}
use Rattle.connection_rules.specs.NetParts.{Wired, all_wired, net_names, wired_of}
use Rattle.net_laws.specs.NetsTold.{is_of_net, net_of_record}

pub wired_names : (library : Library) (design : List Record) (u : ℕ) (all : List Record)
    → map (λ (w : Wired). w.name) (filter_map (λ (r : Record). entry_of r >>= wired_of library design u) all) ≡ filter_map net_of_record all
wired_names library design u [] = refl
wired_names library design u (top t ∷ all) = wired_names library design u all
wired_names library design u (in_properties p ∷ all) = wired_names library design u all
wired_names library design u (end_section s ∷ all) = wired_names library design u all
wired_names library design u (entry (records.component x) ∷ all) = wired_names library design u all
wired_names library design u (entry (records.pin x) ∷ all) = wired_names library design u all
wired_names library design u (entry (records.region x) ∷ all) = wired_names library design u all
wired_names library design u (entry (records.group x) ∷ all) = wired_names library design u all
wired_names library design u (entry (records.blockage x) ∷ all) = wired_names library design u all
wired_names library design u (entry (records.net (must_join x)) ∷ all) = wired_names library design u all
wired_names library design u (entry (records.net (is_net n)) ∷ all) = ap (λ (ns : List (List ℕ)). n.name ∷ ns) (wired_names library design u all)
wired_names library design u (entry (records.special_net n) ∷ all) = ap (λ (ns : List (List ℕ)). n.name ∷ ns) (wired_names library design u all)
wired_names library design u (entry (records.via x) ∷ all) = wired_names library design u all
wired_names library design u (entry (records.rule x) ∷ all) = wired_names library design u all
wired_names library design u (entry (records.skipped s x) ∷ all) = wired_names library design u all

module _ (test : List ℕ → Bool) where
  abbrev self : List ℕ → List ℕ
  self name = name

  -- a name that passes stands among some where it stands among those that pass
  among_more : (name n : List ℕ) (before : List (List ℕ)) → test name ≡ true → (t e : Bool) → test n ≡ t → bytes_eq n name ≡ e
      → list_any (has_name self name) before ≡ list_any (has_name self name) (filter test before)
      → (e || list_any (has_name self name) before) ≡ list_any (has_name self name) (if t then n ∷ filter test before else filter test before)
  among_more name n before passes true true h g later = sym (ap (λ (x : Bool). x || list_any (has_name self name) (filter test before)) g)
  among_more name n before passes true false h g later = later ∙ sym (ap (λ (x : Bool). x || list_any (has_name self name) (filter test before)) g)
  among_more name n before passes false false h g later = later
  among_more name n before passes false true h g later =
      let same : n ≡ name = (bytes_eq-Decides n name).0 g in
      absurd (let no : test name ≡ false = ap test (sym same) ∙ h in cc)

  among : (name : List ℕ) → test name ≡ true → (before : List (List ℕ)) → list_any (has_name self name) before ≡ list_any (has_name self name) (filter test before)
  among name passes [] = refl
  among name passes (n ∷ before) = among_more name n before passes (test n) (bytes_eq n name) refl refl (among name passes before)

  -- the first of each name, and of those that pass
  firsts : (before : List (List ℕ)) (name : List ℕ) → filter test (with_first self before name) ≡ (if test name then with_first self (filter test before) name else filter test before)
  firsts before name = one (test name) (list_any (has_name self name) before) refl refl
    where
      one : (t e : Bool) → test name ≡ t → list_any (has_name self name) before ≡ e
          → filter test (if e then before else before ++ name ∷ []) ≡ (if t then with_first self (filter test before) name else filter test before)
      one true true h g = sym (ap (λ (x : Bool). if x then filter test before else filter test before ++ name ∷ []) (sym (among name h before) ∙ g))
      one true false h g =
          filter-append test before (name ∷ [])
          ∙ ap (λ (x : Bool). filter test before ++ (if x then name ∷ [] else [])) h
          ∙ sym (ap (λ (x : Bool). if x then filter test before else filter test before ++ name ∷ []) (sym (among name h before) ∙ g))
      one false true h g = refl
      one false false h g = filter-append test before (name ∷ []) ∙ ap (λ (x : Bool). filter test before ++ (if x then name ∷ [] else [])) h ∙ append-nil (filter test before)

  pub each_once_passing : (before names : List (List ℕ)) → filter test (with_all self before names) ≡ with_all self (filter test before) (filter test names)
  unfolding Rattle.form_meanings.specs.Firsts.with_all
  each_once_passing before [] = refl
  each_once_passing before (name ∷ names) = each_once_passing (with_first self before name) names ∙ one (test name) (firsts before name)
    where
      one : (t : Bool) → filter test (with_first self before name) ≡ (if t then with_first self (filter test before) name else filter test before)
          → with_all self (filter test (with_first self before name)) (filter test names) ≡ with_all self (filter test before) (if t then name ∷ filter test names else filter test names)
      one true h = ap (λ (ns : List (List ℕ)). with_all self ns (filter test names)) h
      one false h = ap (λ (ns : List (List ℕ)). with_all self ns (filter test names)) h

  -- The names that pass are the same in two designs whose statements' nets that pass are the same.
  pub same_names : (library : Library) (a b : List Record) (u : ℕ) → filter test (filter_map net_of_record a) ≡ filter test (filter_map net_of_record b)
      → filter test (net_names library a u) ≡ filter test (net_names library b u)
  same_names library a b u same =
      each_once_passing [] (map (λ (w : Wired). w.name) (all_wired library a u))
      ∙ ap (with_all self []) (ap (filter test) (wired_names library a u a) ∙ same ∙ sym (ap (filter test) (wired_names library b u b)))
      ∙ sym (each_once_passing [] (map (λ (w : Wired). w.name) (all_wired library b u)))

-- the entries of one net by their names
one_more : (b : Bool) (name net : List ℕ) (r : Record) (left : List (List ℕ)) (rest : List Record) → net_of_record r ≡ Some name → left ≡ filter_map net_of_record rest
    → (if b then name ∷ left else left) ≡ filter_map net_of_record (if b then r ∷ rest else rest)
one_more true name net r left rest is later = ap₂ (λ (x : Option (List ℕ)) (ns : List (List ℕ)). cons_option x ns) (sym is) later
one_more false name net r left rest is later = later

pub names_of_net : (net : List ℕ) (all : List Record) → filter (λ (n : List ℕ). bytes_eq n net) (filter_map net_of_record all) ≡ filter_map net_of_record (filter (is_of_net net) all)
names_of_net net [] = refl
names_of_net net (top t ∷ all) = names_of_net net all
names_of_net net (in_properties p ∷ all) = names_of_net net all
names_of_net net (end_section s ∷ all) = names_of_net net all
names_of_net net (entry (records.component x) ∷ all) = names_of_net net all
names_of_net net (entry (records.pin x) ∷ all) = names_of_net net all
names_of_net net (entry (records.region x) ∷ all) = names_of_net net all
names_of_net net (entry (records.group x) ∷ all) = names_of_net net all
names_of_net net (entry (records.blockage x) ∷ all) = names_of_net net all
names_of_net net (entry (records.net (must_join x)) ∷ all) = names_of_net net all
names_of_net net (entry (records.net (is_net n)) ∷ all) = one_more (bytes_eq n.name net) n.name net (entry (records.net (is_net n))) _ (filter (is_of_net net) all) refl (names_of_net net all)
names_of_net net (entry (records.special_net n) ∷ all) = one_more (bytes_eq n.name net) n.name net (entry (records.special_net n)) _ (filter (is_of_net net) all) refl (names_of_net net all)
names_of_net net (entry (records.via x) ∷ all) = names_of_net net all
names_of_net net (entry (records.rule x) ∷ all) = names_of_net net all
names_of_net net (entry (records.skipped s x) ∷ all) = names_of_net net all

-- things that pass a test, and those that don't, are all
module _ {A B : Type 0} (f : A → B) (test : A → Bool) where
  pub parted : (xs : List A) → SameThings (map f xs) (map f (filter test xs) ++ map f (filter (λ (a : A). not (test a)) xs))
  parted xs = record { sums = λ w. sums w xs }
    where
      one : (w : B → ℕ) (t : Bool) (x : A) (xs ps qs : List A) → sum_by w (map f xs) ≡ sum_by w (map f ps ++ map f qs)
          → sum_by w (map f (x ∷ xs)) ≡ sum_by w (map f (if t then x ∷ ps else ps) ++ map f (if not t then x ∷ qs else qs))
      one w true x xs ps qs h = omega (arith, h, sum_by-cons w (f x) (map f xs), sum_by-append w (map f ps) (map f qs), sum_by-cons w (f x) (map f ps ++ map f qs))
      one w false x xs ps qs h =
          omega (arith, h, sum_by-cons w (f x) (map f xs), sum_by-append w (map f ps) (map f qs), sum_by-append w (map f ps) (f x ∷ map f qs), sum_by-cons w (f x) (map f qs))

      sums : (w : B → ℕ) (xs : List A) → sum_by w (map f xs) ≡ sum_by w (map f (filter test xs) ++ map f (filter (λ (a : A). not (test a)) xs))
      sums w [] = refl
      sums w (x ∷ xs) = one w (test x) x xs (filter test xs) (filter (λ (a : A). not (test a)) xs) (sums w xs)
