pub mod Plotting
