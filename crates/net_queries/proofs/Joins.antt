-- Joins that are made one after the other.
use Rattle.std.proofs.Common.{◌≡◌, ◌<◌, ℕ, Bool, true, false, List, [], ◌∷◌, ◌++◌, map, filter, length, refl, sym, ap, subst, ◌∙◌, arith}
use Rattle.std.specs.Prelude.{if◌then◌else◌}
use Rattle.std.specs.List.{FoldsTo}
use Rattle.std.proofs.lemmas.List.{length-map}
use Rattle.std.proofs.lemmas.List.Sums.{sum_by-append}
use Rattle.shape_rules.specs.Classes.{AreBelow, all_joined, joined}
use Rattle.net_queries.specs.Joining.{JoinedBy}

pub split : {P : Type 0} (b : Bool) → (b ≡ true → P) → (b ≡ false → P) → P
split true first second = first refl
split false first second = second refl

pub length_joined : (es : List (ℕ × ℕ)) (ls : List ℕ) → length (all_joined es ls) ≡ length ls
unfolding all_joined
length_joined [] ls = refl
length_joined (e ∷ es) ls = length-map (all_joined es ls) _ ∙ length_joined es ls

joined_twice : (es fs : List (ℕ × ℕ)) (ls : List ℕ) → all_joined (es ++ fs) ls ≡ all_joined es (all_joined fs ls)
unfolding all_joined
joined_twice [] fs ls = refl
joined_twice (e ∷ es) fs ls = ap (joined e) (joined_twice es fs ls)

pub below_both : (n : ℕ) (es fs : List (ℕ × ℕ)) → AreBelow n es → AreBelow n fs → AreBelow n (es ++ fs)
below_both n [] fs a b = b
below_both n (e ∷ es) fs a b = (a.0, a.1, below_both n es fs a.2 b)

pub same_length : (a : List ℕ) (xs : List (ℕ × ℕ)) (b : List ℕ) → JoinedBy a xs b → length b ≡ length a
same_length a xs b j = ap length j.labels ∙ length_joined j.joins a

pub joined_none : (ls : List ℕ) → JoinedBy ls [] ls
unfolding all_joined
joined_none ls = record { joins = []; same = record { sums = λ w. refl }; below = tt; labels = refl }

joined_once : (a b : List ℕ) (e : ℕ × ℕ) → e.0 < length a → e.1 < length a → b ≡ joined e a → JoinedBy a (e ∷ []) b
unfolding all_joined
joined_once a b e first second is = record { joins = e ∷ []; same = record { sums = λ w. refl }; below = (first, second, tt); labels = is }

pub joined_on : (a b c : List ℕ) (xs ys : List (ℕ × ℕ)) → JoinedBy a xs b → JoinedBy b ys c → JoinedBy a (xs ++ ys) c
joined_on a b c xs ys j k = record {
  joins = k.joins ++ j.joins;
  same = record { sums = λ w. let p = j.same.sums w in let q = k.same.sums w in omega (arith, p, q, sum_by-append w k.joins j.joins, sum_by-append w xs ys) };
  below = below_both (length a) k.joins j.joins (subst (λ n. AreBelow n k.joins) (same_length a xs b j) k.below) j.below;
  labels = k.labels ∙ ap (all_joined k.joins) j.labels ∙ sym (joined_twice k.joins j.joins a);
}

-- a fold each of whose steps joins two parts, or none
module _ {B E : Type 0} (view : B → List ℕ) (R : B → E → B → Type 0) (test : E → Bool) (join : E → ℕ × ℕ) (n : ℕ)
    (first : (e : E) → test e ≡ true → (join e).0 < n) (second : (e : E) → test e ≡ true → (join e).1 < n)
    (step : (a : B) (e : E) (b : B) → R a e b → length (view a) ≡ n → view b ≡ (if test e then joined (join e) (view a) else view a)) where
  next : (e : E) (es : List E) (a b c : B) → length (view a) ≡ n → R a e b → (length (view b) ≡ n → JoinedBy (view b) (map join (filter test es)) (view c)) → JoinedBy (view a) (map join (filter test (e ∷ es))) (view c)
  next e es a b c size r later =
      let is = step a e b r size in
      split (test e)
      (λ t. let once = joined_once (view a) (view b) (join e) (rw size (first e t)) (rw size (second e t)) (rw t at is) in
      let both = joined_on (view a) (view b) (view c) (join e ∷ []) (map join (filter test es)) once (later (same_length _ _ _ once ∙ size)) in
      rw t both)
      (λ t. let same : view b ≡ view a = rw t at is in
      let k = later (ap length same ∙ size) in
      rw (t, ← same) k)

  pub folded : (es : List E) (a b : B) → length (view a) ≡ n → FoldsTo R a es b → JoinedBy (view a) (map join (filter test es)) (view b)
  folded [] a b size e = subst (λ q. JoinedBy (view a) [] (view q)) e (joined_none (view a))
  folded (e ∷ es) a b size f = next e es a f.0 b size f.1 (λ s. folded es f.0 b s f.2)
