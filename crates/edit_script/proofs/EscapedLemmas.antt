-- Bytes that are written with good escapes: how many there are, and the answer to the edit that puts them.
use Rattle.std.proofs.Common.{◌≡◌, ℕ, List, length, Option, Some, None, Result, refl, subst, ap, sym, ◌∙◌}
use Rattle.form_meanings.specs.Words.{◌>>=◌}
use Rattle.edit_model.specs.declared.edit.Done.{Done}
use Rattle.edit_model.specs.declared.edit.EditRefusal.{EditRefusal}
use Rattle.lef_grammar.specs.Library.{Library}
use Rattle.edit_rules.specs.Script.{Order, unescaped}
use Rattle.report_rules.specs.Output.{Counts, LineAnswers, counted, reply_line}
use Rattle.script_lines.specs.Escapes.{SpellsSome}
use Rattle.script_lines.specs.Orders.{text_seen}
use Rattle.edit_script.specs.Answered.{AnswersText}

same_number : (m n : ℕ) → Some m ≡ Some n → m ≡ n
same_number m n e = cc

pub length_is : (raw bytes : List ℕ) (n : ℕ) → SpellsSome raw n → unescaped raw ≡ Some bytes → length bytes ≡ n
length_is raw bytes n spells is = same_number (length bytes) n (sym (ap (λ (o : Option (List ℕ)). o >>= λ bs. Some (length bs)) is) ∙ spells)

none_is_some : (n : ℕ) → None ≡ Some n → ⊥
none_is_some n e = cc

-- the answer to the edit that puts them
pub text_line : (library : Library) (n a b count : ℕ) (put : Option (List ℕ)) (order : Order) (reply : Result Done EditRefusal) (old new bytes : List ℕ) (t u : Counts)
    → (put >>= λ bs. Some (length bs)) ≡ Some count → text_seen a b put ≡ order → AnswersText library old a b put reply new → bytes ≡ reply_line n reply → u ≡ counted reply t
    → LineAnswers library n order old t bytes new u
text_line library n a b count None order reply old new bytes t u good seen answers is counts = absurd (none_is_some count good)
text_line library n a b count (Some put) order reply old new bytes t u good seen answers is counts =
    subst (λ (o : Order). LineAnswers library n o old t bytes new u) seen (reply, answers put refl, is, counts)
