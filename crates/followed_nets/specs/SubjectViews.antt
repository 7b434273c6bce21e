-- What an edit is of, in the program as in the definitions.
use Rattle.net_laws.specs.Within.{Listed, a_component, a_pin, neither}
use Rattle.followed_nets.specs.declared.within.EditSubject.{EditSubject}
use Rattle.followed_nets.specs.declared.within.EditSubject.TheVariants as code

abbrev pub subject_view : EditSubject → Listed
subject_view (code.Component name) = a_component name.now
subject_view (code.Pin name) = a_pin name.now
subject_view code.Neither = neither
