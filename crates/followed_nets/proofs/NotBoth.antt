-- Rectangles of two lists, of which each one that stands in both is taken off both.
use Rattle.std.proofs.Common.{◌≡◌, ◌<◌, ◌≤◌, ◌+◌, ◌∙◌, ℕ, Bool, true, false, cond, List, [], ◌∷◌, ◌++◌, Option, ap, arith, drop, get_or, length, map, refl, sum_by, subst, sym}
use Rattle.std.proofs.lemmas.List.{drop_more}
use Rattle.std.specs.Prelude.{◌&&◌, nat_eq}
use Rattle.std.specs.Bool.{beq}
use Rattle.std.specs.Cmp.{booleans_Decides, signed_Decides, unsigned_Decides}
use Rattle.std.specs.Ordering.{int_eq}
use Rattle.std.proofs.lemmas.List.Sums.{sum_by-append, sum_by-cons}
use Rattle.design_model.specs.declared.identifier.StmtId.{StmtId}
use Rattle.def_grammar.specs.Records.{Record}
use Rattle.lef_grammar.specs.Library.{Library}
use Rattle.connection_rules.specs.NetLines.{Barrier, barriers}
use Rattle.design_rules.specs.Boxes.{scale}
use Rattle.line_laws.specs.Lines.{SameThings}
use Rattle.net_laws.specs.Blocked.{BarsAreExchanged, BarsChange, bars_in}
use Rattle.text_pieces.specs.Tables.{Kept}
use Rattle.design_text.specs.Exchanges.{AreExchanges, Exchanged}
use Rattle.followed_nets.specs.Noted.{said}
use Rattle.followed_nets.proofs.ChangedBars.{bars_change}
use Rattle.followed_nets.specs.Blocked.{bars_come, bars_gone, AreNotBoth, is_bar, is_rectangle, times_barred}

both : (a b : Bool) → (a && b) ≡ true → (a ≡ true) × (b ≡ true)
both true b h = (refl, h)
both false b h = absurd (cc)

is_one : (a b : Barrier) → is_bar a b ≡ true → a ≡ b
is_one a b same =
    let layers = both (nat_eq a.layer b.layer) (beq a.spares_power b.spares_power && is_rectangle a.box b.box) same in
    let spare = both (beq a.spares_power b.spares_power) (is_rectangle a.box b.box) layers.1 in
    let x1 = both (int_eq a.box.x1 b.box.x1) (int_eq a.box.y1 b.box.y1 && (int_eq a.box.x2 b.box.x2 && int_eq a.box.y2 b.box.y2)) spare.1 in
    let y1 = both (int_eq a.box.y1 b.box.y1) (int_eq a.box.x2 b.box.x2 && int_eq a.box.y2 b.box.y2) x1.1 in
    let x2 = both (int_eq a.box.x2 b.box.x2) (int_eq a.box.y2 b.box.y2) y1.1 in
    rw (
      (unsigned_Decides a.layer b.layer).0 layers.0,
      (booleans_Decides a.spares_power b.spares_power).0 spare.0,
      (signed_Decides a.box.x1 b.box.x1).0 x1.0,
      (signed_Decides a.box.y1 b.box.y1).0 y1.0,
      (signed_Decides a.box.x2 b.box.x2).0 x2.0,
      (signed_Decides a.box.y2 b.box.y2).0 x2.1,
    ) refl

-- a rectangle that isn't among some can be put beside those that aren't either
put_beside : (bar b : Barrier) (left come : List Barrier) (same : Bool) → is_bar b bar ≡ same → times_barred bar come ≡ 0 → (0 < times_barred b left → times_barred b come ≡ 0) → 0 < times_barred b left + cond same 1 0 → times_barred b come ≡ 0
put_beside bar b left come true is none apart some = subst (λ (x : Barrier). times_barred x come ≡ 0) (sym (is_one b bar is)) none
put_beside bar b left come false is none apart some = apart (omega (arith, some))

pub one_beside : (bar : Barrier) (left come : List Barrier) → times_barred bar come ≡ 0 → AreNotBoth left come → AreNotBoth (left ++ (bar ∷ [])) come
one_beside bar left come none apart = λ b some.
    let more = sum_by-append (λ x. cond (is_bar b x) 1 0) left (bar ∷ []) in
    let last = sum_by-cons (λ x. cond (is_bar b x) 1 0) bar [] in
    put_beside bar b left come (is_bar b bar) refl none (apart b) (omega (arith, some, more, last))

-- none comes in where one is taken out
pub one_less : (bar : Barrier) (left now new : List Barrier) → SameThings now (bar ∷ new) → AreNotBoth left now → AreNotBoth left new
one_less bar left now new taken apart = λ b some.
    let before = apart b some in
    let same = taken.sums (λ x. cond (is_bar b x) 1 0) in
    let first = sum_by-cons (λ x. cond (is_bar b x) 1 0) bar new in
    omega (arith, before, same, first)

-- what a loop that takes them one after the other has before each: of those that went, what is left to look at
module _ {A : Type 0} (f : A → Barrier) (gone : List A) (old : List Barrier) where
  pub next : (i : ℕ) (x : A) (come left come' left' : List Barrier) → i < length gone → x ≡ get_or gone i x
      → SameThings (come ++ left') (left ++ (f x ∷ come'))
      → SameThings (map f gone ++ come) (map f (drop i gone) ++ (old ++ left))
      → SameThings (map f gone ++ come') (map f (drop (i + 1) gone) ++ (old ++ left'))
  next i x come left come' left' below is step had = record {
    sums = λ w.
        let rest = map f (drop (i + 1) gone) in
        let split : map f (drop i gone) ≡ f x ∷ rest = ap (map f) (drop_more gone i x below ∙ ap (λ y. y ∷ drop (i + 1) gone) (sym is)) in
        let s = step.sums w in
        let h = had.sums w in
        let parts = ap (sum_by w) split in
        omega (
          arith,
          s,
          h,
          parts,
          sum_by-append w come left',
          sum_by-append w left (f x ∷ come'),
          sum_by-cons w (f x) come',
          sum_by-append w (map f gone) come,
          sum_by-append w (map f (drop i gone)) (old ++ left),
          sum_by-append w old left,
          sum_by-cons w (f x) rest,
          sum_by-append w (map f gone) come',
          sum_by-append w rest (old ++ left'),
          sum_by-append w old left',
        );
  }

-- what changed is said as well by what is left of it
left_change : (old new gone come gone' come' : List Barrier) → BarsChange old new gone come → SameThings (gone ++ come') (come ++ gone') → BarsChange old new gone' come'
left_change old new gone come gone' come' change left = record {
  same = record {
    sums = λ w.
        let c = change.same.sums w in
        let l = left.sums w in
        omega (arith, c, l, sum_by-append w old come, sum_by-append w new gone, sum_by-append w gone come', sum_by-append w come gone', sum_by-append w old come', sum_by-append w new gone');
  };
}

-- so after exchanges of statements
pub what_is_left : (slots : List (Option Kept)) (library : Library) → BarsAreExchanged → (old new : List (StmtId × Record)) (xs : List Exchanged) (gone come gone' come' : List Barrier)
    → AreExchanges slots old xs new → gone ≡ bars_gone library slots xs → come ≡ bars_come library slots xs → SameThings (gone ++ come') (come ++ gone')
    → BarsChange (barriers library (said old) (scale (said old))) (barriers library (said new) (scale (said new))) gone' come'
what_is_left slots library law old new xs gone come gone' come' made gone_are come_are left =
    left_change (bars_in library (said old)) (bars_in library (said new)) (bars_gone library slots xs) (bars_come library slots xs) gone' come' (bars_change slots library law old new xs made) (rw (gone_are, come_are) at left)
