-- A pass over a list: what is found so far, and the test of the rest, is the test of the whole.
use mathlib.Core.Path.{◌≡◌, sym, ◌∙◌}
use mathlib.Core.Bool.{Bool, true, false, ◌&&◌}

-- the rest begins with the test t
pub found_on : (ok t rest rest₀ whole : Bool) → (ok && rest₀) ≡ whole → rest₀ ≡ (t && rest) → ((ok && t) && rest) ≡ whole
found_on true t rest rest₀ whole h e = sym e ∙ h
found_on false t rest rest₀ whole h e = h

-- nothing is left
pub found_end : (ok rest whole : Bool) → (ok && rest) ≡ whole → rest ≡ true → ok ≡ whole
found_end true rest whole h e = sym e ∙ h
found_end false rest whole h e = h
