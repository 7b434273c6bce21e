-- A name is that of a net where an entry has it, and its net is found among all.
use Rattle.std.proofs.Common.{◌≡◌, ◌∙◌, ℕ, Bool, true, false, ◌||◌, List, [], ◌∷◌, ◌++◌, filter, map, Some, None, refl, sym, ap, ap₂, arith, if◌then◌else◌}
use Rattle.std.specs.List.{list_any}
use Rattle.std.specs.Str.{bytes_eq}
use Rattle.std.proofs.lemmas.List.Folds.{list_any-append}
use Rattle.std.proofs.lemmas.Slice.Eq.{bytes_eq-Decides}
use Rattle.form_meanings.specs.Firsts.{find_named, has_name, with_all, with_first}
use Rattle.def_grammar.specs.Records.{Record}
use Rattle.lef_grammar.specs.Library.{Library}
use Rattle.connection_rules.specs.NetParts.{Net, Wired, all_nets, all_wired, is_named, net_named, net_names}
use Rattle.measure_rules.specs.Lengths.{is_net}

same_name : (a b : List ℕ) → bytes_eq a b ≡ true → a ≡ b
same_name a b t = grind (arith, bytes_eq-Decides)

own_name : (a : List ℕ) → bytes_eq a a ≡ true
own_name a = grind (arith, bytes_eq-Decides)

pub either_way : (a b : List ℕ) → bytes_eq a b ≡ bytes_eq b a
either_way a b = grind (arith, bytes_eq-Decides)

-- whether a name is among others
abbrev has : List ℕ → List (List ℕ) → Bool
has n names = list_any (has_name (λ m. m) n) names

abbrev with_name : List (List ℕ) → List ℕ → List (List ℕ)
with_name names n = with_first (λ m. m) names n

has_same : (m n : List ℕ) (names : List (List ℕ)) → bytes_eq m n ≡ true → has m names ≡ has n names
has_same m n names same = ap (λ k. has k names) (same_name m n same)

has_pushed : (n m : List ℕ) (names : List (List ℕ)) → has n (names ++ m ∷ []) ≡ (has n names || bytes_eq m n)
has_pushed n m names = grind (arith, list_any-append (has_name (λ (k : List ℕ). k) n) names (m ∷ []))

has_with_name : (n m : List ℕ) (names : List (List ℕ)) → has n (with_name names m) ≡ (has n names || bytes_eq m n)
has_with_name n m names = by (has m names) refl (bytes_eq m n) refl
  where
    by : (b : Bool) → has m names ≡ b → (c : Bool) → bytes_eq m n ≡ c → has n (if b then names else names ++ m ∷ []) ≡ (has n names || c)
    by false h c e = has_pushed n m names ∙ ap (λ k. has n names || k) e
    by true h false e = grind arith
    by true h true e = grind (arith, has_same m n names)

has_all : (n : List ℕ) (before names : List (List ℕ)) → has n (with_all (λ m. m) before names) ≡ (has n before || has n names)
unfolding with_all
has_all n before [] = grind arith
has_all n before (m ∷ names) = grind (arith, has_all n (with_name before m) names, has_with_name n m before)

any_has : (n : List ℕ) (names : List (List ℕ)) → list_any (bytes_eq n) names ≡ has n names
any_has n [] = refl
any_has n (m ∷ names) = ap₂ (λ (b c : Bool). b || c) (either_way n m) (any_has n names)

-- what passes a test is among those that do
module _ {A : Type 0} (test : A → Bool) where
  kept_or_not : (b : Bool) (a : A) (all : List A) → test a ≡ b → list_any test (filter test all) ≡ list_any test all
      → list_any test (if b then a ∷ filter test all else filter test all) ≡ (b || list_any test all)
  kept_or_not true a all is later = ap (λ (b : Bool). b || list_any test (filter test all)) is
  kept_or_not false a all is later = later

  pub any_kept : (all : List A) → list_any test (filter test all) ≡ list_any test all
  any_kept [] = refl
  any_kept (a ∷ all) = kept_or_not (test a) a all refl (any_kept all)

module _ (library : Library) (design : List Record) (u : ℕ) (name : List ℕ) where
  has_names : (ws : List Wired) → has name (map (λ (w : Wired). w.name) ws) ≡ list_any (is_named library design u name) ws
  has_names [] = refl
  has_names (w ∷ ws) = ap (λ (b : Bool). bytes_eq w.name name || b) (has_names ws)

  -- a net has the name of an entry
  pub is_net_by_entries : is_net library design u name ≡ list_any (is_named library design u name) (filter (is_named library design u name) (all_wired library design u))
  is_net_by_entries =
      any_has name (net_names library design u)
      ∙ has_all name [] (map (λ (w : Wired). w.name) (all_wired library design u))
      ∙ has_names (all_wired library design u)
      ∙ sym (any_kept (is_named library design u name) (all_wired library design u))

  -- the first net, or a later one
  found_or_later : (b : Bool) (n : List ℕ) (names : List (List ℕ)) → bytes_eq n name ≡ b
      → find_named (λ (net : Net). net.name) (map (net_named library design u) names) name ≡ (if list_any (bytes_eq name) names then Some (net_named library design u name) else None)
      → (if b then Some (net_named library design u n) else find_named (λ (net : Net). net.name) (map (net_named library design u) names) name)
      ≡ (if b || list_any (bytes_eq name) names then Some (net_named library design u name) else None)
  found_or_later true n names is later = ap (λ (m : List ℕ). Some (net_named library design u m)) (same_name n name is)
  found_or_later false n names is later = later

  found_among : (names : List (List ℕ))
      → find_named (λ (net : Net). net.name) (map (net_named library design u) names) name ≡ (if list_any (bytes_eq name) names then Some (net_named library design u name) else None)
  found_among [] = refl
  found_among (n ∷ names) =
      found_or_later (bytes_eq n name) n names refl (found_among names)
      ∙ ap (λ (b : Bool). if b || list_any (bytes_eq name) names then Some (net_named library design u name) else None) (either_way n name)

  -- the net of a name, where there is one
  pub net_is_found : find_named (λ (net : Net). net.name) (all_nets library design u) name ≡ (if is_net library design u name then Some (net_named library design u name) else None)
  net_is_found = found_among (net_names library design u)

  -- the only net of a design is one
  one_has : (names : List (List ℕ)) → list_any (λ (net : Net). bytes_eq name net.name) (map (net_named library design u) names) ≡ list_any (bytes_eq name) names
  one_has [] = refl
  one_has (n ∷ names) = ap (λ (b : Bool). bytes_eq name n || b) (one_has names)

  pub only_net : (n : Net) → n.name ≡ name → all_nets library design u ≡ n ∷ [] → is_net library design u name ≡ true
  only_net n named only =
      sym (one_has (net_names library design u))
      ∙ ap (list_any (λ (net : Net). bytes_eq name net.name)) only
      ∙ ap (λ (m : List ℕ). bytes_eq name m || false) named
      ∙ ap (λ (b : Bool). b || false) (own_name name)
