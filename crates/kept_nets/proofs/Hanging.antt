-- How parts hang together, in another order.
use Rattle.std.proofs.Common.{◌≡◌, ◌∙◌, ℕ, Bool, true, cond, not, ◌||◌, List, [], ◌∷◌, Option, Some, None, refl, sym, ap, arith}
use Rattle.std.specs.Prelude.{IfSome, nat_lt, count_by}
use Rattle.std.specs.List.{list_any}
use Rattle.std.proofs.lemmas.List.Sums.{sum_by-cons}
use Rattle.connection_rules.specs.NetLines.{is_drawn}
use Rattle.connection_rules.specs.NetParts.{Part}
use Rattle.line_laws.specs.Lines.{SameThings}
use Rattle.net_classes.specs.declared.class_lines.NetClasses.{NetClasses}
use Rattle.class_laws.specs.OneMore.{SamePartsAreAlike}
use Rattle.kept_nets.specs.Kept.{HangAs}
use Rattle.kept_nets.proofs.Sums.{split}

-- something passes where some are counted
any_counts : {A : Type 0} (test : A → Bool) (xs : List A) → list_any test xs ≡ nat_lt 0 (count_by test xs)
any_counts test [] = refl
any_counts test (x ∷ xs) =
    let rest = any_counts test xs in
    let all = sum_by-cons (λ y. cond {A = ℕ} (test y) 1 0) x xs in
    split (test x)
    (λ t.
    let one : cond {A = ℕ} (test x) 1 0 ≡ 1 = rw t refl in
    let some : nat_lt 0 (count_by test (x ∷ xs)) ≡ true = grind (arith, all, one) in
    ap (λ (b : Bool). b || list_any test xs) t ∙ sym some)
    (λ t.
    let none : cond {A = ℕ} (test x) 1 0 ≡ 0 = rw t refl in
    let same : count_by test (x ∷ xs) ≡ count_by test xs = omega (arith, all, none) in
    ap (λ (b : Bool). b || list_any test xs) t ∙ rest ∙ ap (nat_lt 0) (sym same))

-- whether some are drawn doesn't depend on their order
pub drawn_alike : (ps qs : List Part) → SameThings ps qs → is_drawn ps ≡ is_drawn qs
drawn_alike ps qs h =
    let test = λ (p : Part). not p.is_pin in
    any_counts test ps ∙ ap (nat_lt 0) (h.sums (λ p. cond {A = ℕ} (test p) 1 0)) ∙ sym (any_counts test qs)

-- what is known of parts holds in another order
pub hangs_alike : SamePartsAreAlike → (ps qs : List Part) (c : NetClasses) → SameThings ps qs → HangAs ps c → HangAs qs c
hangs_alike law ps qs c same h =
    let alike = law ps qs same in
    record { holding = h.holding ∙ alike.classes; bare = h.bare ∙ alike.floating; drawn = h.drawn ∙ drawn_alike ps qs same }

pub known_alike : SamePartsAreAlike → (ps qs : List Part) (o : Option NetClasses) → SameThings ps qs → IfSome o (HangAs ps) → IfSome o (HangAs qs)
known_alike law ps qs None same h = h
known_alike law ps qs (Some c) same h = hangs_alike law ps qs c same h
