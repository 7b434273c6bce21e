-- How the ends of a run follow from those of its parts.
use Rattle.std.proofs.Common.{◌≡◌, ℕ, List, [], ◌++◌, Result, Ok, Err, refl, inl, inr, sym, ap, ◌∙◌, append_assoc, append-nil}
use Rattle.std.specs.Prelude.{IfErr, IfOk, IsErrOf, IsOk}
use Rattle.counted_devices.specs.Known.{WritesPart}
use Rattle.std.proofs.KnownBytes.{Appends-nil}
use Rattle.lef_grammar.specs.Library.{Library, library_of}
use Rattle.def_grammar.specs.Records.{read_def}
use Rattle.edit_rules.specs.Script.{script_lines}
use Rattle.report_rules.specs.Output.{Counts}
use Rattle.edit_script.specs.declared.run.RunFault.{RunFault}
use Rattle.edit_script.specs.declared.run.RunFault.TheVariants as faults
use Rattle.edit_script.specs.Ends.{Known, WritesNothing, WritesRun, WritesRunPart, AnswersCut, AnswersSome, StopsBy, StopsOver, StopsUnread}

pub stopped_by_out : (library : Library) (text script : List ℕ) (o o' d : Known) → WritesRunPart library text (script_lines script) o o' → AnswersCut library text script o o' d d
stopped_by_out library text script o o' d (part, rest, last, counts, run, w) =
    (part, [], rest ++ last, part ++ rest, last, counts, run, append_assoc part rest last ∙ ap (λ l. l ++ (rest ++ last)) (sym (append-nil part)), inl refl, w, Appends-nil d)

pub stopped_by_text : (library : Library) (text script : List ℕ) (o o' d d' : Known) (last : List ℕ) (counts : Counts)
    → WritesRun library text (script_lines script) o o' last counts → WritesPart d d' last → AnswersCut library text script o o' d d'
stopped_by_text library text script o o' d d' last counts (bytes, run, w) (done, rest, split, more) =
    (bytes, done, rest, bytes, last, counts, run, ap (λ l. bytes ++ l) split ∙ sym (append_assoc bytes done rest), inr refl, w, more)

-- all answers were written, and no text
pub answered_some : (library : Library) (text script : List ℕ) (o o' d : Known) (last : List ℕ) (counts : Counts) → WritesRun library text (script_lines script) o o' last counts → AnswersSome library text script o o' d d
answered_some library text script o o' d last counts (bytes, run, w) = (bytes, [], last, counts, rw (append-nil bytes) run, w, Appends-nil d)

-- what holds of an answer holds of it in other words
pub ok_so : {T E : Type 0} (P Q : T → Type 0) (r : Result T E) → ((t : T) → P t → Q t) → IfOk r P → IfOk r Q
ok_so P Q (Ok t) so h = so t h
ok_so P Q (Err e) so h = tt

pub ok_of_both : {T E : Type 0} (P Q R : T → Type 0) (r : Result T E) → ((t : T) → P t → Q t → R t) → IfOk r P → IfOk r Q → IfOk r R
ok_of_both P Q R (Ok t) so g h = so t g h
ok_of_both P Q R (Err e) so g h = tt

pub err_so : {T E : Type 0} (P Q : E → Type 0) (r : Result T E) → ((e : E) → P e → Q e) → IfErr r P → IfErr r Q
err_so P Q (Ok t) so h = tt
err_so P Q (Err e) so h = so e h

-- a run that stops over the library of the LEF texts
pub stops_by : (lefs : List (List ℕ)) (library : Library) (def : List ℕ) (input o o' d d' : Known) (fault : RunFault) → library_of lefs ≡ Ok library
    → StopsOver library def input o o' d d' fault → StopsBy lefs def input o o' d d' fault
stops_by lefs library def input o o' d d' (faults.Lef file fault) is h = absurd h
stops_by lefs library def input o o' d d' (faults.Def fault) is h = (library, is, h)
stops_by lefs library def input o o' d d' faults.TooLong is h = (library, is, h)
stops_by lefs library def input o o' d d' faults.Read is h = (library, is, h)
stops_by lefs library def input o o' d d' faults.Endless is h = (library, is, h)
stops_by lefs library def input o o' d d' faults.Memory is h = inr (library, is, h)
stops_by lefs library def input o o' d d' faults.Write is h = (library, is, h)

wrote_nothing : (o d : Known) → WritesNothing o o d d
wrote_nothing o d = record { out = Appends-nil o; def_out = Appends-nil d }

-- a run that stops before the script is read
pub stops_unread : (library : Library) (def : List ℕ) (input o d : Known) (fault : RunFault) → IsOk (read_def def) → StopsUnread input fault → StopsOver library def input o o d d fault
stops_unread library def input o d faults.TooLong reads is = (reads, is, wrote_nothing o d)
stops_unread library def input o d faults.Memory reads is = inl (wrote_nothing o d)
stops_unread library def input o d faults.Read reads is = (reads, wrote_nothing o d)
stops_unread library def input o d faults.Endless reads is = (reads, wrote_nothing o d)
stops_unread library def input o d (faults.Lef file fault) reads is = absurd is
stops_unread library def input o d (faults.Def fault) reads is = absurd is
stops_unread library def input o d faults.Write reads is = absurd is

-- the error of one answer is that of another one
pub err_of_other : {T U E : Type 0} (e w : E) → IsErrOf {T = T} (Err e) w → IsErrOf {T = U} (Err e) w
err_of_other e w is = let same : e ≡ w = cc in ap (λ x. Err x) same
