-- The numbers of the statements that are read whichever net is told, one exchange after the other.
use Rattle.std.proofs.Common.{◌≡◌, ◌∙◌, ◌+◌, ◌<◌, ◌≤◌, ◌||◌, ℕ, Bool, true, false, List, [], ◌∷◌, ◌++◌, drop, get_or, length, map, slice_get, take, Option, Some, None, Result, Ok, Err, refl, sym, ap, ap₂, arith, subst}
use Rattle.std.specs.Prelude.{◌==◌, IfOk, IfSome, filter}
use Rattle.std.specs.List.{list_any}
use Rattle.std.proofs.Math.Seq.{drop-append-add, drop-append_seam}
use Rattle.std.proofs.lemmas.Bool.{cases_eq}
use Rattle.std.proofs.lemmas.List.{drop_all, drop_more, length-take-le, map-append, take-append-drop}
use Rattle.std.proofs.lemmas.Option.{get_or_from_slice_get, slice_get_within}
use Rattle.std.proofs.lemmas.List.Elements.{filter-append}
use Rattle.std.proofs.lemmas.List.Folds.{list_any-append}
use Rattle.design_model.specs.declared.identifier.StmtId.{StmtId}
use Rattle.def_grammar.specs.Records.{Record}
use Rattle.text_pieces.specs.KeptRecords.{record_of, records_under}
use Rattle.text_pieces.specs.Tables.{Kept, kept_at}
use Rattle.design_tables.specs.Lookups.{is_number}
use Rattle.design_text.specs.Exchanges.{AreExchanges, Exchanged, IsExchange}
use Rattle.followed_nets.specs.Noted.{AreCommon, numbers_telling, telling_under, tells_any}
use Rattle.followed_nets.proofs.WithinLemmas.{next_of}

pub found_so : {A E : Type 0} (P Q : A → Type 0) (r : Result (Option A) E) → ((a : A) → P a → Q a) → IfOk r (λ f. IfSome f P) → IfOk r (λ f. IfSome f Q)
found_so P Q (Ok (Some a)) so h = so a h
found_so P Q (Ok None) so h = tt
found_so P Q (Err e) so h = tt

-- a number that is one of some isn't none of them
is_itself : (id : StmtId) → is_number id id ≡ true
is_itself id = same id.0
  where
    same : (n : ℕ) → (n == n) ≡ true
    same n = grind arith

none_of_two : (b c : Bool) → (b || c) ≡ false → (b ≡ false) × (c ≡ false)
none_of_two true c h = absurd (cc)
none_of_two false c h = (refl, h)

there : (id : StmtId) (front rest : List StmtId) → list_any (is_number id) (front ++ id ∷ rest) ≡ false → ⊥
there id front rest none =
    let behind = (none_of_two (list_any (is_number id) front) (list_any (is_number id) (id ∷ rest)) (sym (list_any-append (is_number id) front (id ∷ rest)) ∙ none)).1 in
    let here = (none_of_two (is_number id id) (list_any (is_number id) rest) behind).0 in
    let it = is_itself id in
    cc

-- a number that stands once stands at one place
pub only_once : (id : StmtId) (front rest before behind : List StmtId) → list_any (is_number id) front ≡ false → list_any (is_number id) rest ≡ false → front ++ id ∷ rest ≡ before ++ id ∷ behind → before ≡ front
only_once id [] rest [] behind none none_behind is = refl
only_once id [] rest (x ∷ before) behind none none_behind is =
    let same : rest ≡ before ++ id ∷ behind = cc in
    absurd (there id before behind (ap (list_any (is_number id)) (sym same) ∙ none_behind))
only_once id (y ∷ front) rest [] behind none none_behind is =
    let same : y ≡ id = cc in
    absurd (there id [] [] (ap (λ (b : Bool). b || false) (ap (is_number id) (sym same) ∙ (none_of_two (is_number id y) (list_any (is_number id) front) none).0)))
only_once id (y ∷ front) rest (x ∷ before) behind none none_behind is =
    let same : x ≡ y = cc in
    let later : front ++ id ∷ rest ≡ before ++ id ∷ behind = cc in
    ap₂ (λ (a : StmtId) (l : List StmtId). a ∷ l) same (only_once id front rest before behind (none_of_two (is_number id y) (list_any (is_number id) front) none).1 none_behind later)

-- the place of an element parts a list
pub parted_at : (ids : List StmtId) (place : ℕ) (id : StmtId) → place < length ids → get_or ids place id ≡ id → ids ≡ take place ids ++ id ∷ drop (place + 1) ids
parted_at ids place id below is =
    sym (take-append-drop place ids) ∙ ap (λ (l : List StmtId). take place ids ++ l) (drop_more ids place id below ∙ ap (λ (x : StmtId). x ∷ drop (place + 1) ids) is)

-- what stands behind a row of numbers from a place on
pub behind_row : (front went rest : List StmtId) (place end : ℕ) → place ≡ length front → end ≡ place + length went → drop end (front ++ (went ++ rest)) ≡ rest
behind_row front went rest place end is to =
    ap (λ (n : ℕ). drop n (front ++ (went ++ rest))) (to ∙ ap (λ (n : ℕ). n + length went) is)
    ∙ drop-append-add front (went ++ rest) (length went)
    ∙ drop-append_seam went rest

-- the first of a row, and those behind it
pub first_of_row : (went : List StmtId) (first : StmtId) → slice_get went 0 ≡ Some first → went ≡ first ∷ drop 1 went
first_of_row went first is = drop_more went 0 first (slice_get_within went 0 first is) ∙ ap (λ (x : StmtId). x ∷ drop 1 went) (get_or_from_slice_get went 0 first first is)

-- a row that stands at the place of its first is exchanged there
pub row_exchanged : (ids went came front rest : List StmtId) (first : StmtId) (place end : ℕ) (all : List StmtId) → slice_get went 0 ≡ Some first → ids ≡ front ++ (went ++ rest)
    → ((before behind : List StmtId) → ids ≡ before ++ first ∷ behind → (before ≡ take place ids) × (length before ≡ place)) → end ≡ place + length went
    → all ≡ take place ids ++ (came ++ drop end ids) → all ≡ front ++ (came ++ rest)
row_exchanged ids went came front rest first place end all begins is only to are =
    let there = only front (drop 1 went ++ rest) (is ∙ ap (λ (l : List StmtId). front ++ (l ++ rest)) (first_of_row went first begins)) in
    are ∙ ap₂ (λ (a b : List StmtId). a ++ (came ++ b)) (sym there.0) (ap (drop end) is ∙ behind_row front went rest place end (sym there.1) to)

-- where a number stands once
pub only_at : (ids : List StmtId) (place : ℕ) (id : StmtId) → ids ≡ take place ids ++ id ∷ drop (place + 1) ids → place < length ids → list_any (is_number id) (take place ids) ≡ false
    → list_any (is_number id) (drop (place + 1) ids) ≡ false → (front rest : List StmtId) → ids ≡ front ++ id ∷ rest → (front ≡ take place ids) × (length front ≡ place)
only_at ids place id parted below none none_behind front rest is =
    let same = only_once id (take place ids) (drop (place + 1) ids) front rest none none_behind (sym parted ∙ is) in
    (same, ap length same ∙ length-take-le place ids (omega (arith, below)))

module _ (slots : List (Option Kept)) where
  abbrev under : List StmtId → List StmtId
  under ids = telling_under slots ids

  both : (xs ys : List (StmtId × Record)) → numbers_telling (xs ++ ys) ≡ numbers_telling xs ++ numbers_telling ys
  both xs ys =
      let f = λ (x : StmtId × Record). tells_any x.1 in
      ap (map (λ (x : StmtId × Record). x.0)) (filter-append f xs ys) ∙ map-append (λ (x : StmtId × Record). x.0) (filter f xs) (filter f ys)

  under_both : (a b : List StmtId) → under (a ++ b) ≡ under a ++ under b
  under_both a b = ap numbers_telling (map-append (λ id. (id, record_of (kept_at slots id))) a b) ∙ both (records_under slots a) (records_under slots b)

  parted : (front some rest : List StmtId) → under (front ++ (some ++ rest)) ≡ under front ++ (under some ++ under rest)
  parted front some rest = under_both front (some ++ rest) ∙ ap (λ (l : List StmtId). under front ++ l) (under_both some rest)

  -- before an exchange, and after it
  pub numbers_before : (old new : List (StmtId × Record)) (x : Exchanged) (numbers : List StmtId) (e : IsExchange slots old new x) → AreCommon old numbers → numbers ≡ under e.front ++ (under x.went ++ under e.rest)
  numbers_before old new x numbers e are = are ∙ ap numbers_telling e.old_is ∙ parted e.front x.went e.rest

  pub numbers_then : (old new : List (StmtId × Record)) (x : Exchanged) (numbers : List StmtId) (e : IsExchange slots old new x) → numbers ≡ under e.front ++ (under x.came ++ under e.rest) → AreCommon new numbers
  numbers_then old new x numbers e are = are ∙ sym (ap numbers_telling e.new_is ∙ parted e.front x.came e.rest)

  -- Some exchanges are left: whatever statements all began with, these begin with some whose numbers are known.
  abbrev pub NumbersThen : List Exchanged → List Exchanged → List (StmtId × Record) → List StmtId → List StmtId → Type 0
  NumbersThen all left last numbers known = (old : List (StmtId × Record)) → AreExchanges slots old all last → AreCommon old numbers
      → (between : List (StmtId × Record)) × AreExchanges slots between left last × AreCommon between known

  pub none_exchanged : (all : List Exchanged) (last : List (StmtId × Record)) (numbers known : List StmtId) → known ≡ numbers → NumbersThen all all last numbers known
  none_exchanged all last numbers known same old made are = (old, made, same ∙ are)

  pub one_more_exchanged : (all : List Exchanged) (last : List (StmtId × Record)) (n : ℕ) (x : Exchanged) (numbers known next : List StmtId) → Some x ≡ slice_get all n
      → ((old new : List (StmtId × Record)) → IsExchange slots old new x → AreCommon old known → AreCommon new next)
      → NumbersThen all (drop n all) last numbers known → NumbersThen all (drop (n + 1) all) last numbers next
  one_more_exchanged all last n x numbers known next is step stays old made are =
      let before = stays old made are in
      let after = next_of slots before.0 last all n x is before.1 in
      (after.0, after.2, step before.0 after.0 after.1 before.2)

  pub all_exchanged : (all : List Exchanged) (last : List (StmtId × Record)) (n : ℕ) (numbers known : List StmtId) → length all ≤ n → NumbersThen all (drop n all) last numbers known
      → (old : List (StmtId × Record)) → AreExchanges slots old all last → AreCommon old numbers → AreCommon last known
  all_exchanged all last n numbers known done stays old made are =
      let at_last = stays old made are in
      let same : last ≡ at_last.0 = subst (λ (ys : List Exchanged). AreExchanges slots at_last.0 ys last) (drop_all n all done) at_last.1 in
      subst (λ (rs : List (StmtId × Record)). AreCommon rs known) (sym same) at_last.2
