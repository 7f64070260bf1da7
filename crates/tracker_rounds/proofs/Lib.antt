mod Trails
mod Making
mod Looks
mod Connections
mod Links
mod Sent
