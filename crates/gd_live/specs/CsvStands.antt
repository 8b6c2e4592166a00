-- Where bytes of a text stand, as a state of csv's machine.
use Rattle.csv.specs.declared.parser.State.{State}
use Rattle.csv.specs.declared.parser.State.TheVariants as st
use Rattle.gd_live.specs.declared.closed.Stand.{Stand}
use Rattle.gd_live.specs.declared.closed.Stand.TheVariants as stand

abbrev pub state_of : Stand → State
state_of stand.RecordBegins = st.StartRecord
state_of stand.FieldBegins = st.StartField
state_of stand.WithinField = st.InField
state_of stand.WithinQuotes = st.InQuoted
state_of stand.BehindQuote = st.AfterQuote
state_of stand.BehindReturn = st.AfterCr
