-- Exchanges of statements that leave what cells hold beside nets.
use Rattle.std.proofs.Common.{◌≡◌, ◌∙◌, ◌≤◌, ◌+◌, ℕ, Bool, true, false, not, List, [], ◌∷◌, ◌++◌, drop, filter, length, map, slice_get, Option, Some, refl, sym, ap}
use Rattle.std.specs.List.{AllByRecursion, list_any}
use Rattle.std.proofs.lemmas.List.{drop_all, drop_more, map-append}
use Rattle.std.proofs.lemmas.Option.{get_or_from_slice_get, slice_get_within}
use Rattle.design_model.specs.declared.identifier.StmtId.{StmtId}
use Rattle.def_grammar.specs.Records.{Record}
use Rattle.measuring_laws.specs.Measuring.{OthersLeaveCells, is_of_cells}
use Rattle.text_pieces.specs.KeptRecords.{HavePieces, record_of, records_under}
use Rattle.text_pieces.specs.Tables.{Kept, kept_at}
use Rattle.design_text.specs.Exchanges.{AreExchanges, Exchanged, IsExchange}
use Rattle.followed_nets.specs.Noted.{said}
use Rattle.followed_measures.specs.Cells.{LeavesCells}

-- what holds of all that are left of a list, one after the other
module _ {A : Type 0} (P : A → Type 0) (xs : List A) (n : ℕ) where
  module _ (x : A) (is : Some x ≡ slice_get xs n) where
    next_is : drop n xs ≡ x ∷ drop (n + 1) xs
    next_is = drop_more xs n x (slice_get_within xs n x (sym is)) ∙ ap (λ (y : A). y ∷ drop (n + 1) xs) (get_or_from_slice_get xs n x x (sym is))

    pub of_next : AllByRecursion P (drop n xs) → P x × AllByRecursion P (drop (n + 1) xs)
    of_next all = let both = rw next_is at all in (both.0, both.1)

    pub with_next : P x → AllByRecursion P (drop (n + 1) xs) → AllByRecursion P (drop n xs)
    with_next this others = rw next_is (this, others)

  pub of_none : length xs ≤ n → AllByRecursion P (drop n xs)
  of_none done = rw (drop_all n xs done) tt

-- what a test says of a list in which it finds none
pub none_where : (found any : Bool) → found ≡ not any → found ≡ true → any ≡ false
none_where found true is h = absurd (cc)
none_where found false is h = refl

module _ (slots : List (Option Kept)) where
  -- what went out by an exchange is kept, and so is what came in
  pub record AreKept (x : Exchanged) : Type 0 where
    pub went : HavePieces slots x.went
    pub came : HavePieces slots x.came

  pub all_kept : (xs : List Exchanged) (old last : List (StmtId × Record)) → AreExchanges slots old xs last → AllByRecursion AreKept xs
  all_kept [] old last made = tt
  all_kept (x ∷ xs) old last made = (record { went = made.1.went; came = made.1.came }, all_kept xs made.0 last made.2)

  abbrev say : List StmtId → List Record
  say ids = said (records_under slots ids)

  kept_said : (ids : List StmtId) → map (λ id. record_of (kept_at slots id)) ids ≡ say ids
  kept_said [] = refl
  kept_said (i ∷ ids) = ap (λ (l : List Record). record_of (kept_at slots i) ∷ l) (kept_said ids)

  said_both : (some rest : List StmtId) → say (some ++ rest) ≡ say some ++ say rest
  said_both some rest =
      ap said (map-append (λ id. (id, record_of (kept_at slots id))) some rest)
      ∙ map-append (λ x. x.1) (records_under slots some) (records_under slots rest)

  parted : (records : List (StmtId × Record)) (front some rest : List StmtId) → records ≡ records_under slots (front ++ (some ++ rest)) → said records ≡ say front ++ (say some ++ say rest)
  parted records front some rest is = ap said is ∙ said_both front (some ++ rest) ∙ ap (λ (l : List Record). say front ++ l) (said_both some rest)

  none_said : (but : Option (List ℕ)) (ids : List StmtId) → list_any (is_of_cells but) (map (λ id. record_of (kept_at slots id)) ids) ≡ false → list_any (is_of_cells but) (say ids) ≡ false
  none_said but ids none = ap (list_any (is_of_cells but)) (sym (kept_said ids)) ∙ none

  module _ (law : OthersLeaveCells) (but : Option (List ℕ)) where
    left_by_one : (old new : List (StmtId × Record)) (x : Exchanged) → IsExchange slots old new x → LeavesCells slots but x → filter (is_of_cells but) (said old) ≡ filter (is_of_cells but) (said new)
    left_by_one old new x e leaves =
        ap (filter (is_of_cells but)) (parted old e.front x.went e.rest e.old_is)
        ∙ law (say e.front) (say x.went) (say x.came) (say e.rest) but (none_said but x.went leaves.went) (none_said but x.came leaves.came)
        ∙ ap (filter (is_of_cells but)) (sym (parted new e.front x.came e.rest e.new_is))

    pub left_by_all : (xs : List Exchanged) (old last : List (StmtId × Record)) → AreExchanges slots old xs last → AllByRecursion (LeavesCells slots but) xs
        → filter (is_of_cells but) (said old) ≡ filter (is_of_cells but) (said last)
    left_by_all [] old last made leave = ap (λ (rs : List (StmtId × Record)). filter (is_of_cells but) (said rs)) (sym made)
    left_by_all (x ∷ xs) old last made leave = left_by_one old made.0 x made.1 leave.0 ∙ left_by_all xs made.0 last made.2 leave.1
