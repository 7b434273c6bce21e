-- What holds of each of a list, of what is made of the list.
use Rattle.std.proofs.Common.{ℕ, Bool, true, false, List, [], ◌∷◌, ◌++◌, map, flat_map, Option, Some, None, if◌then◌else◌}
use Rattle.std.specs.Prelude.{IfSome}
use Rattle.std.specs.List.{All, list_any, filter_map, cons_option}
use Rattle.std.specs.Option.{option_map}
use Rattle.std.proofs.lemmas.List.Elements.{All-nil, All-cons, All-head, All-tail, All-append, All-push}
use Rattle.form_meanings.specs.Firsts.{found_then, front, headed, first_of, has_name, with_first, with_all, find_named}
use Rattle.form_meanings.specs.Words.{first}

-- what may be made of a value
pub mapped : {A B : Type 0} (f : A → B) (P : A → Type 0) (Q : B → Type 0) (o : Option A) → ((a : A) → P a → Q (f a)) → IfSome o P → IfSome (option_map f o) Q
mapped f P Q None so p = tt
mapped f P Q (Some a) so p = so a p

module _ {A B : Type 0} (f : A → Option B) (P : A → Type 0) (Q : B → Type 0) (so : (a : A) → P a → IfSome (f a) Q) where
  cons_each : (o : Option B) (bs : List B) → IfSome o Q → All Q bs → All Q (cons_option o bs)
  cons_each None bs q all = all
  cons_each (Some b) bs q all = All-cons Q b bs q all

  pub filter_map_each : (xs : List A) → All P xs → All Q (filter_map f xs)
  filter_map_each [] all = All-nil Q
  filter_map_each (x ∷ xs) all = cons_each (f x) (filter_map f xs) (so x (All-head P x xs all)) (filter_map_each xs (All-tail P x xs all))

  first_each : (bs : List B) → All Q bs → IfSome (first bs) Q
  first_each [] all = tt
  first_each (b ∷ bs) all = All-head Q b bs all

  pub first_of_each : (xs : List A) → All P xs → IfSome (first_of f xs) Q
  first_of_each xs all = first_each (filter_map f xs) (filter_map_each xs all)

  found_each : (o : Option B) (bs : List B) → IfSome o Q → All Q bs → All Q (found_then o bs)
  found_each None bs q all = All-nil Q
  found_each (Some b) bs q all = All-cons Q b bs q all

  pub front_each : (xs : List A) → All P xs → All Q (front f xs)
  unfolding front
  front_each [] all = All-nil Q
  front_each (x ∷ xs) all = found_each (f x) (front f xs) (so x (All-head P x xs all)) (front_each xs (All-tail P x xs all))

  module _ {C : Type 0} (header : A → Option C) where
    header_each : (o : Option C) (bs : List B) (all : List (C × List B)) → All Q bs → All (λ x. All Q x.1) all → All (λ x. All Q x.1) (cons_option (option_map (λ c. (c, bs)) o) all)
    header_each None bs all q rest = rest
    header_each (Some c) bs all q rest = All-cons (λ (x : C × List B). All Q x.1) (c, bs) all q rest

    pub headed_each : (xs : List A) → All P xs → All (λ x. All Q x.1) (headed header f xs)
    unfolding headed
    headed_each [] all = All-nil (λ (x : C × List B). All Q x.1)
    headed_each (x ∷ xs) all = header_each (header x) (front f xs) (headed header f xs) (front_each xs (All-tail P x xs all)) (headed_each xs (All-tail P x xs all))

pub map_each : {A B : Type 0} (f : A → B) (P : A → Type 0) (Q : B → Type 0) → ((a : A) → P a → Q (f a)) → (xs : List A) → All P xs → All Q (map f xs)
map_each f P Q so [] all = All-nil Q
map_each f P Q so (x ∷ xs) all = All-cons Q (f x) (map f xs) (so x (All-head P x xs all)) (map_each f P Q so xs (All-tail P x xs all))

pub flat_map_each : {A B : Type 0} (f : A → List B) (P : A → Type 0) (Q : B → Type 0) → ((a : A) → P a → All Q (f a)) → (xs : List A) → All P xs → All Q (flat_map f xs)
flat_map_each f P Q so [] all = All-nil Q
flat_map_each f P Q so (x ∷ xs) all = All-append Q (f x) (flat_map f xs) (so x (All-head P x xs all)) (flat_map_each f P Q so xs (All-tail P x xs all))

module _ {A : Type 0} (name_of : A → List ℕ) (P : A → Type 0) where
  if_each : (b : Bool) (before : List A) (a : A) → All P before → P a → All P (if b then before else before ++ a ∷ [])
  if_each true before a all p = all
  if_each false before a all p = All-push P before a all p

  pub with_all_each : (before xs : List A) → All P before → All P xs → All P (with_all name_of before xs)
  unfolding with_all
  with_all_each before [] all rest = all
  with_all_each before (x ∷ xs) all rest =
      with_all_each (with_first name_of before x) xs (if_each (list_any (has_name name_of (name_of x)) before) before x all (All-head P x xs rest)) (All-tail P x xs rest)

  found_if : (b : Bool) (a : A) (o : Option A) → P a → IfSome o P → IfSome (if b then Some a else o) P
  found_if true a o p q = p
  found_if false a o p q = q

  pub found_each_named : (xs : List A) (name : List ℕ) → All P xs → IfSome (find_named name_of xs name) P
  found_each_named [] name all = tt
  found_each_named (x ∷ xs) name all = found_if (has_name name_of name x) x (find_named name_of xs name) (All-head P x xs all) (found_each_named xs name (All-tail P x xs all))
