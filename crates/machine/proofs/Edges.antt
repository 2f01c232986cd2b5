-- The starred cases of document 01's "Edges", computed.
use mathlib.Core.Path.{refl}
use Rattle.output.specs.Text.{is_digit}
use Rattle.line.specs.Line.{blank, letter, title_byte, kind_byte, plain, escape_of, parse, blank_line}
use Rattle.line.proofs.Edges.{line_edges}
use Rattle.scientific.specs.Decimal.{exponent_ok, is_scientific, is_whole, millionths, scientific_ok}
use Rattle.value.specs.Parameter.{decimal_ok, float_difference_of, period_of, shortest_of}
use Rattle.value.specs.Status.{status_of, status_text}
use Rattle.machine.specs.Report.{status_changed, changed, beyond, moved, due_by, due}
use Rattle.machine.specs.Requests.{request_named, hidden, asked}
use Rattle.machine.specs.Declined.{count_fits, arguments_declined, line_declined}
use Rattle.machine.specs.Edges.{Edges}

pub edges : Edges
unfolding is_digit blank letter title_byte kind_byte plain escape_of parse blank_line exponent_ok is_scientific is_whole millionths scientific_ok decimal_ok float_difference_of period_of shortest_of status_of status_text status_changed changed beyond moved due_by due request_named hidden asked count_fits arguments_declined line_declined
edges = record { lines = line_edges; ids = refl; statuses = refl; parameters = refl; differences = refl; periods = refl; rates = refl }
