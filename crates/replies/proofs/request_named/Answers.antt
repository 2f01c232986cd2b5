-- The place of the name in the table of requests, and the request there.
use mathlib.Core.Path.{◌≡◌, refl, sym, ◌∙◌}
use Rattle.machine.specs.Requests.{request_named}
use Rattle.replies.proofs.RequestTable.{named_none, named_some, found_none, found_hidden, found_shown}
use Rattle.replies.proofs.request_named.Goals as goal

pub returns-in_err-place : goal.returns-in_err-place
returns-in_err-place c = c.from_residual.ensures ∙ found_none c.args.profile refl (named_none c.args.name.now c.place_of.ensures c.in_err-place.was)

pub returns-then-is_hidden : goal.returns-then-is_hidden
returns-then-is_hidden c = let at : c.copied.result ≡ request_named c.args.name.now = named_some c.args.name.now c.place_of.ensures c.in_ok-place.was c.get.result c.copied.ensures c.get.ensures.lookup in
    found_hidden c.args.profile at c.in_ok-request.was (sym c.is_hidden.ensures ∙ c.if-is_hidden.true)

pub returns : goal.returns
returns c = let at : c.copied.result ≡ request_named c.args.name.now = named_some c.args.name.now c.place_of.ensures c.in_ok-place.was c.get.result c.copied.ensures c.get.ensures.lookup in
    found_shown c.args.profile at c.in_ok-request.was (sym c.is_hidden.ensures ∙ c.if-is_hidden.false)
