-- The starred line cases of document 01's Edges, computed.
use mathlib.Core.Path.{refl}
use Rattle.message.specs.Message.{escape_byte, escape, arg, id_text, write_to}
use Rattle.output.specs.Text.{is_digit}
use Rattle.line.specs.Line.{blank, letter, title_byte, kind_byte, plain, escape_of, parse}
use Rattle.line.specs.Edges.{LineEdges}

pub line_edges : LineEdges
unfolding parse blank letter is_digit title_byte kind_byte plain escape_of write_to id_text arg escape escape_byte
line_edges = record { largest_id = refl; larger_id = refl; nothing_within = refl; empty_argument = refl }
