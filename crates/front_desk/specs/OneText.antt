-- The text of a command, which follows from the files and the words (source: own).
use Rattle.std.specs.Prelude.{ℕ, List, Option}
use Rattle.route_base.specs.Contents.{Contents}
use Rattle.route_base.specs.Setting.{Setting}
use Rattle.route_base.specs.declared.types.Request.{Request}
use Rattle.route_base.specs.declared.types.Route.{Route}
use Rattle.front_words.specs.declared.commands.Invocation.{Invocation as Command}
use Rattle.front_desk.specs.Commands.{meaning_of}
use Rattle.front_desk.specs.Plan.{HoldsCertificate}

-- the text that the command prints where it is done, and what it has written into the folder
abbrev pub Answers : Command → Contents → Option Contents → List ℕ → Type 0
Answers command held after text = (meaning_of command).answers held after text

-- the routes of the certificate that the folder holds
abbrev pub routes_certified : {s : Setting} {r : Request} {routes : List Route} {path : List ℕ} {before after : Option Contents}
    → HoldsCertificate s r routes path before after → List Route
routes_certified held = held.certifies.certificate.routes
