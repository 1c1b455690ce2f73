-- `mass::masses_of` meets its contract: each step is worked out on what the one before gave, within the bounds of the budget.
use mathlib.Core.Path.{◌≡◌}
use Rattle.kilograms.specs.Steps.{stick_coefficient, volume15_of, gross_of, net_of}
use Rattle.kilograms.proofs.Uncut.{nothing_cut}
use Rattle.kilograms.proofs.Distance.{gross_within_lem, net_within_lem}
use Rattle.mass.proofs.masses_of.Goals as goal

pub returns : goal.returns
unfolding volume15_of gross_of net_of
returns c =
    let a = c.args in
    let gross : c.gross_mass-gross.result ≡ gross_of a.v0 (stick_coefficient a.stick) a.temperature a.oil.density.0 = cc in
    let net : c.net_mass-net.result ≡ net_of a.v0 (stick_coefficient a.stick) a.temperature a.oil.density.0 a.water a.impurities = cc in
    record {
      v15 = cc;
      gross = gross;
      net = net;
      gross_within = rw gross (gross_within_lem a.v0 a.stick a.temperature a.oil.density.0 a.water a.impurities c.requires);
      net_within = rw net (net_within_lem a.v0 a.stick a.temperature a.oil.density.0 a.water a.impurities c.requires);
      uncut = nothing_cut c.requires;
    }
