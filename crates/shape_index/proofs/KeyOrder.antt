-- Keys in the order in which they are sorted.
use Rattle.std.proofs.Common.{◌≡◌, ◌<◌, ℕ, Bool, true, false, List, Option, Some, refl, sym, ap, ◌∙◌, arith, get_or, length, inl, inr}
use Rattle.std.specs.Prelude.{nat_lt, ◌≤◌, ◌==◌, ◌⊎◌, ◌↔◌, IsSorted}
use Rattle.std.specs.Cmp.{IsTotalOrder, IsStrictWeakOrder}
use Rattle.std.specs.Ordering.{is_lt, is_some_and, nat_cmp, ordering_then, partial_ordering_then}
use Rattle.std.specs.declared.cmp.Ordering.{Ordering}
use Rattle.std.specs.declared.cmp.Ordering.TheVariants.{Less, Equal, Greater}
use Rattle.std.proofs.lemmas.Cmp.{by_ranked, nat_cmp_total, on_total, ranked, then_total}
use Rattle.std.proofs.lemmas.List.Sorted.{ranks_by, sorted_far}
use Rattle.shape_index.specs.declared.tile.TileKey.{TileKey}
use Rattle.shape_index.specs.TileOrder.{Before}

-- the fields are compared one after the other
abbrev pub key_cmp : TileKey → TileKey → Ordering
key_cmp a b =
    ordering_then (nat_cmp a.layer b.layer) (ordering_then (nat_cmp a.size b.size) (ordering_then (nat_cmp a.column b.column) (ordering_then (nat_cmp a.row b.row) (nat_cmp a.id b.id))))

key_cmp_total : IsTotalOrder key_cmp
key_cmp_total =
    then_total (on_total (λ (k : TileKey). k.layer) nat_cmp_total) (then_total (on_total (λ (k : TileKey). k.size) nat_cmp_total) (then_total (on_total (λ (k : TileKey). k.column) nat_cmp_total) (then_total (on_total (λ (k : TileKey). k.row) nat_cmp_total) (on_total (λ (k : TileKey). k.id) nat_cmp_total))))

is_order : IsStrictWeakOrder (λ (a b : TileKey). is_lt (key_cmp a b))
is_order = ranks_by key_cmp_total (λ (k : TileKey). k)

less : (a b : ℕ) → a < b → nat_cmp a b ≡ Less
less a b h = let t : nat_lt a b ≡ true = grind (arith, h) in rw t refl

tied : (a b : ℕ) → a ≡ b → nat_cmp a b ≡ Equal
tied a b h = let t : nat_lt a b ≡ false = grind (arith, h) in let e : (a == b) ≡ true = grind (arith, h) in rw (t, e) refl

before_is_less : (a b : TileKey) → Before a b → is_lt (key_cmp a b) ≡ true
before_is_less a b (inl h) = rw (less _ _ h) refl
before_is_less a b (inr (e, inl h)) = rw (tied _ _ e, less _ _ h) refl
before_is_less a b (inr (e, inr (f, inl h))) = rw (tied _ _ e, tied _ _ f, less _ _ h) refl
before_is_less a b (inr (e, inr (f, inr (g, inl h)))) = rw (tied _ _ e, tied _ _ f, tied _ _ g, less _ _ h) refl
before_is_less a b (inr (e, inr (f, inr (g, inr (i, h))))) = rw (tied _ _ e, tied _ _ f, tied _ _ g, tied _ _ i, less _ _ h) refl

less_of : (a b : ℕ) (o : Ordering) → is_lt (ordering_then (nat_cmp a b) o) ≡ true → (a < b) ⊎ ((a ≡ b) × (is_lt o ≡ true))
less_of a b o h =
    by_ranked (a < b) (a ≡ b) (b < a) (nat_cmp a b) (ranked a b (nat_cmp a b) refl) (λ e low. inl low) (λ e same. inr (same, rw e at h)) (λ e over. let f : false ≡ true = rw e at h in cc)

less_itself : (a b : ℕ) → is_lt (nat_cmp a b) ≡ true → a < b
less_itself a b h =
    by_ranked (a < b) (a ≡ b) (b < a) (nat_cmp a b) (ranked a b (nat_cmp a b) refl) (λ e low. low) (λ e same. let f : false ≡ true = rw e at h in cc) (λ e over. let f : false ≡ true = rw e at h in cc)

less_is_before : (a b : TileKey) → is_lt (key_cmp a b) ≡ true → Before a b
less_is_before a b h =
    elim (less_of a.layer b.layer _ h) [
      | inl l ↦ inl l
      | inr l ↦ inr (
        l.0,
        elim (less_of a.size b.size _ l.1) [
          | inl s ↦ inl s
          | inr s ↦ inr (
            s.0,
            elim (less_of a.column b.column _ s.1) [
              | inl c ↦ inl c
              | inr c ↦ inr (
                c.0,
                elim (less_of a.row b.row _ c.1) [
                  | inl r ↦ inl r
                  | inr r ↦ inr (r.0, less_itself a.id b.id r.1)
                ],
              )
            ],
          )
        ],
      )
    ]

some_then : (o p : Ordering) → partial_ordering_then (Some o) (Some p) ≡ Some (ordering_then o p)
some_then Less p = refl
some_then Equal p = refl
some_then Greater p = refl

then_some : (o : Ordering) (r : Option Ordering) (p : Ordering) → r ≡ Some p → partial_ordering_then (Some o) r ≡ Some (ordering_then o p)
then_some o r p h = rw h (some_then o p)

-- the comparison by `<`
abbrev partial_key_cmp : TileKey → TileKey → Option Ordering
partial_key_cmp a b =
    partial_ordering_then (Some (nat_cmp a.layer b.layer)) (partial_ordering_then (Some (nat_cmp a.size b.size)) (partial_ordering_then (Some (nat_cmp a.column b.column)) (partial_ordering_then (Some (nat_cmp a.row b.row)) (Some (nat_cmp a.id b.id)))))

partial_is : (a b : TileKey) → partial_key_cmp a b ≡ Some (key_cmp a b)
partial_is a b =
    then_some (nat_cmp a.layer b.layer) _ _
    (then_some (nat_cmp a.size b.size) _ _ (then_some (nat_cmp a.column b.column) _ _ (some_then (nat_cmp a.row b.row) (nat_cmp a.id b.id))))

pub less_where_before : (a b : TileKey) (less : Bool) → less ≡ is_some_and is_lt (partial_key_cmp a b) → (less ≡ true) ↔ Before a b
less_where_before a b less h =
    let e : less ≡ is_lt (key_cmp a b) = h ∙ ap (is_some_and is_lt) (partial_is a b) in
    (λ t. less_is_before a b (sym e ∙ t), λ before. e ∙ before_is_less a b before)

-- of sorted keys none comes before an earlier one
pub none_before : (keys : List TileKey) (i j : ℕ) (d : TileKey) → IsSorted key_cmp keys → i ≤ j → j < length keys → ¬ Before (get_or keys j d) (get_or keys i d)
none_before keys i j d sorted low high before =
    let no = sorted_far _ is_order keys sorted i j d low high in
    let yes = before_is_less _ _ before in
    cc
