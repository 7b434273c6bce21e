-- Laws of what a text has once, apart from what its statements are.
use Rattle.std.specs.Prelude.{◌≡◌, ◌≢◌, ◌≤◌, ◌↔◌, List, [], ◌∷◌, map, None, Ok}
use Rattle.std.specs.List.{count_by}
use Rattle.statement_model.specs.Tokens.{Lexed}
use Rattle.statement_model.specs.Grammar.{Key, Grammar}
use Rattle.statement_model.specs.Reading.{same_words, repeats, with_key, read_from}
use Rattle.piece_laws.specs.Pieces.{keyless}

-- after keys that were seen, none of these comes again
abbrev pub AreFresh : List Key → List Key → Type 0
AreFresh seen [] = Unit {0}
AreFresh seen (key ∷ keys) = (repeats seen key ≡ None) × AreFresh (with_key key seen) keys

-- all keys that were seen after these
abbrev pub keys_after : List Key → List Key → List Key
keys_after seen [] = seen
keys_after seen (key ∷ keys) = keys_after (with_key key seen) keys

module _ {M R : Type 0} (g : Grammar M R) where
  -- A text that reads does so without its keys, none of them comes again, and none is lacking.
  abbrev pub KeysAreApart : Type 0
  KeysAreApart = (m : M) (seen : List Key) (l : Lexed) (recs : List R)
      → read_from g (m, seen) l ≡ Ok recs
      → (read_from (keyless g) (m, []) l ≡ Ok recs) × AreFresh seen (map g.key recs) × (g.lacks (keys_after seen (map g.key recs)) ≡ None)

  -- A text that reads without its keys, of which none comes again and none is lacking, reads.
  abbrev pub KeysDecide : Type 0
  KeysDecide = (m : M) (seen : List Key) (l : Lexed) (recs : List R)
      → read_from (keyless g) (m, []) l ≡ Ok recs
      → AreFresh seen (map g.key recs)
      → g.lacks (keys_after seen (map g.key recs)) ≡ None
      → read_from g (m, seen) l ≡ Ok recs

-- each key stands at most once among these, in whatever order
abbrev pub StandOnce : List Key → Type 0
StandOnce keys = (key : Key) → key ≢ [] → count_by (same_words key) keys ≤ 1

-- Of keys one after the other none comes again exactly where each stands at most once.
abbrev pub FreshIsOnce : Type 0
FreshIsOnce = (keys : List Key) → AreFresh [] keys ↔ StandOnce keys
