-- A block that `END` and a word close is read as a VIARULE of this name whose header is complete.
use Rattle.std.proofs.Common.{◌≡◌, ℕ, List, [], ◌∷◌, refl, Option}
use Rattle.form_meanings.specs.Words.{Rest}
use Rattle.statement_model.specs.Form.{read}
use Rattle.lef_grammar.specs.KeptBlocks.{closed_by, complete, generating_statement}

by_words : (w : List ℕ) (ws : List (List ℕ)) (bad : Option ℕ)
    → read (closed_by w) (record { words = ws; bad = bad }) ≡ read (generating_statement w complete) (record { words = ws; bad = bad })
unfolding closed_by generating_statement
by_words w [] bad = refl
by_words w (x ∷ ws) bad = refl

pub read_closed_by : (w : List ℕ) (r : Rest) → read (closed_by w) r ≡ read (generating_statement w complete) r
read_closed_by w r = by_words w r.words r.bad
