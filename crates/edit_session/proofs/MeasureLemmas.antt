-- What is measured of what a text reads as.
use Rattle.std.proofs.Common.{◌≡◌, ℕ, List, Result, Ok, Err, refl}
use Rattle.std.specs.Prelude.{IsOk}
use Rattle.design_model.specs.declared.fault.Fault.{Fault}
use Rattle.def_grammar.specs.Records.{Record, read_def}
use Rattle.edit_session.specs.Sessions.{Measures}

pub design_of : (r : Result (List Record) Fault) → IsOk r → (design : List Record) × (r ≡ Ok design)
design_of (Ok design) h = (design, refl)
design_of (Err f) h = absurd (cc)

pub measured : {B : Type 0} (text : List ℕ) (of : List Record → B) (value : B) → IsOk (read_def text) → ((design : List Record) → read_def text ≡ Ok design → value ≡ of design) → Measures text of value
measured text of value reads is = let read = design_of (read_def text) reads in (read.0, read.1, is read.0 read.1)
