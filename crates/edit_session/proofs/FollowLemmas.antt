-- Statements that an edit exchanges, and what is found of a text.
use Rattle.std.proofs.Common.{◌≡◌, ◌≤◌, ◌+◌, ℕ, List, ◌∷◌, drop, length, map, Option, Some, refl, sym, ap, subst, ◌∙◌, Ok, slice_get}
use Rattle.std.specs.Prelude.{IfSome, IsOk}
use Rattle.std.proofs.lemmas.List.{drop_all, drop_more}
use Rattle.std.proofs.lemmas.Option.{get_or_from_slice_get, slice_get_within}
use Rattle.design_model.specs.declared.identifier.StmtId.{StmtId}
use Rattle.def_grammar.specs.Records.{Record, read_def}
use Rattle.design_text.specs.DesignTexts.{Content}
use Rattle.design_text.specs.Exchanges.{AreExchanges, Exchanged, IsExchange}

-- what numbered statements say is the design that a text reads as
pub said_is : (text : List ℕ) (records : List (StmtId × Record)) (design : List Record) → map (λ (x : StmtId × Record). x.1) records ≡ design → read_def text ≡ Ok design → read_def text ≡ Ok (map (λ (x : StmtId × Record). x.1) records)
said_is text records design are reads = rw are reads

pub is_read : (text : List ℕ) (design : List Record) → read_def text ≡ Ok design → IsOk (read_def text)
is_read text design reads = rw reads refl

-- what holds of a value if there is one, of this one
pub of_some : {A : Type 0} (P : A → Type 0) (found : Option A) (value : A) → Some value ≡ found → IfSome found P → P value
of_some P found value is holds = rw (← is) at holds

-- one of some exchanges that were made one after the other
pub next_exchange : (text : Content) (old new : List (StmtId × Record)) (xs : List Exchanged) (n : ℕ) (x : Exchanged) → Some x ≡ slice_get xs n → AreExchanges text.pieces.table.slots old (drop n xs) new
    → (between : List (StmtId × Record)) × IsExchange text.pieces.table.slots old between x × AreExchanges text.pieces.table.slots between (drop (n + 1) xs) new
next_exchange text old new xs n x is exchanges =
    let there = drop_more xs n x (slice_get_within xs n x (sym is)) ∙ ap (λ (y : Exchanged). y ∷ drop (n + 1) xs) (get_or_from_slice_get xs n x x (sym is)) in
    subst (λ (ys : List Exchanged). AreExchanges text.pieces.table.slots old ys new) there exchanges

-- behind the last of them
pub all_exchanged : (text : Content) (old new : List (StmtId × Record)) (xs : List Exchanged) (n : ℕ) → length xs ≤ n → AreExchanges text.pieces.table.slots old (drop n xs) new → new ≡ old
all_exchanged text old new xs n last exchanges = subst (λ (ys : List Exchanged). AreExchanges text.pieces.table.slots old ys new) (drop_all n xs last) exchanges
